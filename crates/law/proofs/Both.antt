-- The transmissions and the counts together: what each rule keeps.
use Rattle.std.proofs.Common.{◌≡◌, ℕ, suc, pred, ◌+◌, ◌<◌, ◌≤◌, Bool, true, false, not, ◌&&◌, List, [], ◌∷◌, ◌++◌, sym, refl, ap, ◌∙◌, ap₂, arith}
use mathlib.Core.Bool.{beq}
use Rattle.ends.specs.Limits.{last_spare}
use Rattle.law.proofs.Line.{Line, line_le}
use Rattle.law.proofs.Count.{one, cnt, cnt_snoc, cnt_agree, cnt_none}
use Rattle.law.proofs.Window.{line_pass, cnt_split, cnt_all}
use Rattle.law.proofs.Tally.{Test, hit, miss, every, Tally, Phase, resting, opening, ready, away, Bound, Wrote, Passed, Fewer, beq_refl, bound_fewer, passed_fewer, bound_open, bound_reset_again, bound_step, bound_again, bound_down, bound_opened, bound_taken, spare_ready, spare_away, late_ready, late_away}
use Rattle.law.proofs.Track.{Stage, Ear, knows, Sync, fall, s_step, s_open, s_reset_again, s_again, s_unheard, s_opened, open_turn, in_turn, s_fits, s_taken, s_silent, s_reset, s_held, held_shows, s_accept, UpQ, DnQ}

-- no frame with this toggle
hit_off : (F t fl tg : Bool) → tg ≡ t → hit F (not t) fl tg ≡ false
hit_off F true fl tg e = rw e (off (beq fl F))
  where
    off : (b : Bool) → b && false ≡ false
    off true = refl
    off false = refl
hit_off F false fl tg e = rw e (off (beq fl F))
  where
    off : (b : Bool) → b && false ≡ false
    off true = refl
    off false = refl

hit_gen : (gen fl tg : Bool) → (fl ≡ true → tg ≡ not gen) → hit true gen fl tg ≡ false
hit_gen gen false tg h = refl
hit_gen true true tg h = rw (h refl)
hit_gen false true tg h = rw (h refl)

hits : (F T fl tg : Bool) → fl ≡ F → tg ≡ T → hit F T fl tg ≡ true
hits F T fl tg a b = rw (a, b, beq_refl F, beq_refl T)

module _ {F A : Type 0} (ff ft : F → Bool) (af ag : A → Bool) (Fits : F → A → Type 0) where
  abbrev pub tally : List F → List A → Tally
  tally U D P = cnt (λ (f : F). P (ff f) (ft f)) U + cnt (λ (a : A). P (af a) (ag a)) D

  t_wrote : (f : F) (F' T : Bool) (U : List F) (D : List A) → ff f ≡ F' → ft f ≡ T → Wrote F' T (tally U D) (tally (U ++ f ∷ []) D)
  t_wrote f F' T U D fl tg P = let h = cnt_snoc (λ (y : F). P (ff y) (ft y)) U f in let e : one (P (ff f) (ft f)) ≡ one (P F' T) = ap₂ (λ (a b : Bool). one (P a b)) fl tg in omega arith

  t_passed : (S : List A) (x : A) (U : List F) (D : List A) → Passed (af x) (ag x) (tally U (S ++ x ∷ D)) (tally U D)
  t_passed S x U D P = let h = cnt_split (λ (y : A). P (af y) (ag y)) S x D in omega arith

  t_shows : (S : List A) (x : A) (U : List F) (D : List A) (F' T : Bool) → af x ≡ F' → ag x ≡ T → Passed F' T (tally U (S ++ x ∷ D)) (tally U D)
  t_shows S x U D F' T fl tg P = let h = cnt_split (λ (y : A). P (af y) (ag y)) S x D in let e : one (P (af x) (ag x)) ≡ one (P F' T) = ap₂ (λ (a b : Bool). one (P a b)) fl tg in omega arith

  t_silent : (S : List F) (x : F) (U : List F) (D : List A) → Fewer (tally (S ++ x ∷ U) D) (tally U D)
  t_silent S x U D P = let h = cnt_split (λ (y : F). P (ff y) (ft y)) S x U in omega arith

  t_answered : (S : List F) (x : F) (U : List F) (D : List A) (y : A) → af y ≡ ff x → ag y ≡ ft x → Fewer (tally (S ++ x ∷ U) D) (tally U (D ++ y ∷ []))
  t_answered S x U D y fl tg P =
      let h = cnt_split (λ (z : F). P (ff z) (ft z)) S x U in
      let g = cnt_snoc (λ (z : A). P (af z) (ag z)) D y in
      let e : one (P (af y) (ag y)) ≡ one (P (ff x) (ft x)) = ap₂ (λ (a b : Bool). one (P a b)) fl tg in omega arith

  t_agree : {Q : ℕ → F → Type 0} {Z : ℕ → A → Type 0} {n m k j : ℕ} (P R : Test) (U : List F) (D : List A) → Line Q n m U → Line Z k j D → ((c : ℕ) (f : F) → m ≤ c → c ≤ n → Q c f → P (ff f) (ft f) ≡ R (ff f) (ft f)) → ((c : ℕ) (a : A) → j ≤ c → c ≤ k → Z c a → P (af a) (ag a) ≡ R (af a) (ag a)) → tally U D P ≡ tally U D R
  t_agree P R U D ups dns u d =
      let x = cnt_agree (λ (f : F). P (ff f) (ft f)) (λ (f : F). R (ff f) (ft f)) u ups in
      let y = cnt_agree (λ (a : A). P (af a) (ag a)) (λ (a : A). R (af a) (ag a)) d dns in
      omega arith

  t_none : (U : List F) (D : List A) → tally U D (λ a b. false) ≡ 0
  t_none U D = omega (arith, cnt_none U, cnt_none D)

  t_le : (P : Test) (U : List F) (D : List A) → tally U D P ≤ tally U D every
  t_le P U D = omega (arith, cnt_all (λ (f : F). P (ff f) (ft f)) U, cnt_all (λ (a : A). P (af a) (ag a)) D)

  none_new : {gen last : Bool} {t : Ear A} {U : List F} {D : List A} → Sync ff ft af ag Fits Stage.idle gen last t U D → tally U D (hit false (not last)) ≡ 0
  none_new {gen} {last} {t} {U} {D} s =
      t_agree (hit false (not last)) (λ a b. false) U D s.ups s.dns
      (λ k g a b q. let kn : k ≡ s.n = omega (arith, s.shape.0) in hit_off false last (ff g) (ft g) (q.2 ∙ ap (λ (y : ℕ). ft (s.book y)) kn ∙ sym s.shape.3))
      (λ k g a b q. let kn : k ≡ s.n = omega (arith, s.shape.0, s.shape.1) in hit_off false last (af g) (ag g) (q.2 ∙ ap (λ (y : ℕ). ft (s.book y)) kn ∙ sym s.shape.3))
      ∙ t_none U D

  none_reset : {st : Stage F} {gen last : Bool} {t : Ear A} {U : List F} {D : List A} (s : Sync ff ft af ag Fits st gen last t U D) → s.pend ≡ false → tally U D (hit true gen) ≡ 0
  none_reset {st} {gen} {last} {t} {U} {D} s np =
      let jm = line_le s.dns in
      t_agree (hit true gen) (λ a b. false) U D s.ups s.dns
      (λ k f a b q. hit_gen gen (ff f) (ft f) (λ e. q.2 ∙ s.gens k (omega arith) (rw np b) q.0 (sym q.1 ∙ e)))
      (λ k f a b q. hit_gen gen (af f) (ag f) (λ e. q.2 ∙ s.gens k a (rw np (omega (arith, s.mn))) q.0 (sym q.1 ∙ e)))
      ∙ t_none U D

  -- what may still pass after an answer that is taken or opens all shows the same
  all_one : (book : ℕ → F) (n m j : ℕ) (U : List F) (D : List A) (fl tg : Bool) → Line (UpQ ff ft af ag Fits book) n m U → Line (DnQ ff ft af ag Fits book) m j D → m ≡ n → j ≡ n → ff (book n) ≡ fl → ft (book n) ≡ tg → tally U D every ≡ tally U D (hit fl tg)
  all_one book n m j U D fl tg ups dns mn jn fe te =
      t_agree every (hit fl tg) U D ups dns
      (λ k f a b y. let e : k ≡ n = omega arith in sym (hits fl tg (ff f) (ft f) (y.1 ∙ ap (λ (z : ℕ). ff (book z)) e ∙ fe) (y.2 ∙ ap (λ (z : ℕ). ft (book z)) e ∙ te)))
      (λ k f a b y. let e : k ≡ n = omega arith in sym (hits fl tg (af f) (ag f) (y.1 ∙ ap (λ (z : ℕ). ff (book z)) e ∙ fe) (y.2 ∙ ap (λ (z : ℕ). ft (book z)) e ∙ te)))

  abbrev pub phase : Stage F → Phase
  phase Stage.fresh = resting
  phase (Stage.opening r) = opening r
  phase Stage.idle = ready
  phase (Stage.away f r) = away (ft f) r
  phase Stage.down = resting

  -- the repeats kept are those of the history
  abbrev pub AsTried : Stage F → ℕ → Type 0
  AsTried Stage.fresh reps = Unit {0}
  AsTried (Stage.opening r) reps = r ≡ reps
  AsTried Stage.idle reps = Unit {0}
  AsTried (Stage.away f r) reps = r ≡ reps
  AsTried Stage.down reps = Unit {0}

  pub record Track (setting reps : ℕ) (st : Stage F) (gen last : Bool) (spare resets : ℕ) (t : Ear A) (U : List F) (D : List A) : Type 0 where
    pub sync : Sync ff ft af ag Fits st gen last t U D
    pub bound : Bound setting gen spare resets (phase st) (tally U D)
    pub as_tried : AsTried st reps

  module _ {setting reps : ℕ} {gen last : Bool} {spare resets : ℕ} {t : Ear A} where
    -- the host's open, step and timer
    pub k_open_fresh : {U : List F} {D : List A} (f : F) (more : ℕ) → ff f ≡ true → ft f ≡ gen → (more < suc last_spare → more ≡ suc resets) → Track setting reps Stage.fresh gen last spare resets t U D → Track setting 0 (Stage.opening 0) gen last spare more t (U ++ f ∷ []) D
    k_open_fresh {U} {D} f more fl tg m k = record { sync = s_open ff ft af ag Fits f fl tg k.sync; bound = bound_open setting gen spare resets more (tally U D) _ (t_wrote f true gen U D fl tg) m k.bound; as_tried = refl }

    pub k_open_down : {U : List F} {D : List A} (f : F) (more : ℕ) → ff f ≡ true → ft f ≡ gen → (more < suc last_spare → more ≡ suc resets) → Track setting reps Stage.down gen last spare resets t U D → Track setting 0 (Stage.opening 0) gen last spare more t (U ++ f ∷ []) D
    k_open_down {U} {D} f more fl tg m k = record { sync = s_open ff ft af ag Fits f fl tg k.sync; bound = bound_open setting gen spare resets more (tally U D) _ (t_wrote f true gen U D fl tg) m k.bound; as_tried = refl }

    pub k_step : {U : List F} {D : List A} (f : F) → ff f ≡ false → ft f ≡ not last → Track setting reps Stage.idle gen last spare resets t U D → Track setting 0 (Stage.away f 0) gen last spare resets t (U ++ f ∷ []) D
    k_step {U} {D} f fl tg k = record { sync = s_step ff ft af ag Fits f fl tg k.sync; bound = bound_step setting gen spare resets (ft f) (tally U D) _ (t_wrote f false (ft f) U D fl refl) (ap (λ (b : Bool). tally U D (hit false b)) tg ∙ none_new k.sync) (t_le (miss (ft f)) U D) k.bound; as_tried = refl }

    pub k_reset_again : {r : ℕ} {U : List F} {D : List A} (f : F) (more : ℕ) → ff f ≡ true → ft f ≡ gen → (more < suc last_spare → more ≡ suc resets) → r < setting → Track setting reps (Stage.opening r) gen last spare resets t U D → Track setting (suc reps) (Stage.opening (suc r)) gen last spare more t (U ++ f ∷ []) D
    k_reset_again {r} {U} {D} f more fl tg m lt k = record { sync = s_reset_again ff ft af ag Fits f fl tg k.sync; bound = bound_reset_again setting gen spare resets more r (tally U D) _ (t_wrote f true gen U D fl tg) m lt k.bound; as_tried = ap suc k.as_tried }

    pub k_again : {r : ℕ} {f : F} {U : List F} {D : List A} → r < setting → Track setting reps (Stage.away f r) gen last spare resets t U D → Track setting (suc reps) (Stage.away f (suc r)) gen last spare resets t (U ++ f ∷ []) D
    k_again {r} {f} {U} {D} lt k = record { sync = s_again ff ft af ag Fits k.sync; bound = bound_again setting gen spare resets r (ft f) (tally U D) _ (t_wrote f false (ft f) U D k.sync.shape.3 refl) lt k.bound; as_tried = ap suc k.as_tried }

    pub k_fall_opening : {r : ℕ} {U : List F} {D : List A} → Track setting reps (Stage.opening r) gen last spare resets t U D → Track setting reps Stage.down gen last spare resets t U D
    k_fall_opening k = record { sync = fall ff ft af ag Fits k.sync; bound = k.bound.0; as_tried = tt }

    pub k_fall_away : {r : ℕ} {f : F} {U : List F} {D : List A} → Track setting reps (Stage.away f r) gen last spare resets t U D → Track setting reps Stage.down gen last spare resets t U D
    k_fall_away {U = U} {D = D} k = record { sync = fall ff ft af ag Fits k.sync; bound = bound_down setting gen spare resets (tally U D) (none_reset k.sync k.sync.shape.2); as_tried = tt }

    -- the repeats are all there were exactly when the timer goes down
    pub k_repeats_opening : {r : ℕ} {U : List F} {D : List A} → Track setting reps (Stage.opening r) gen last spare resets t U D → (r ≤ setting) × (r ≡ reps)
    k_repeats_opening k = (k.bound.1, k.as_tried)

    pub k_repeats_away : {r : ℕ} {f : F} {U : List F} {D : List A} → Track setting reps (Stage.away f r) gen last spare resets t U D → (r ≤ setting) × (r ≡ reps)
    k_repeats_away k = (k.bound.2, k.as_tried)

    -- the host hears
    pub k_unheard : {st : Stage F} {U : List F} (S : List A) (x : A) (D : List A) → Track setting reps st gen last spare resets t U (S ++ x ∷ D) → Track setting reps st gen last spare resets t U D
    k_unheard {st} {U} S x D k = record { sync = s_unheard ff ft af ag Fits S x D k.sync; bound = bound_fewer setting gen spare resets (phase st) (tally U (S ++ x ∷ D)) (tally U D) (passed_fewer (af x) (ag x) (tally U (S ++ x ∷ D)) (tally U D) (t_passed S x U D)) k.bound; as_tried = k.as_tried }

    pub k_opened : {r : ℕ} {U : List F} (S : List A) (x : A) (D : List A) (left : ℕ) → af x ≡ true → ag x ≡ gen → (left < last_spare → left ≡ pred resets) → (last_spare < resets → last_spare ≤ left) → Track setting reps (Stage.opening r) gen last spare resets t U (S ++ x ∷ D) → Track setting reps Stage.idle (not gen) (ag x) left 0 t U D
    k_opened {r} {U} S x D left fl tg m n k =
        let o = k.sync in
        let p = line_pass S o.dns in
        let kn = open_turn ff ft af ag Fits S x D fl tg o in
        let tp = o.top o.shape in
        record { sync = s_opened ff ft af ag Fits S x D fl tg o; bound = bound_opened setting gen spare resets left r (tally U (S ++ x ∷ D)) (tally U D) (t_shows S x U D true gen fl tg) (all_one o.book o.n o.m p.0 U D true gen o.ups p.4 (omega (arith, p.2, o.mn)) kn tp.1 tp.2) m n k.bound; as_tried = tt }

    pub k_fits : {r : ℕ} {f : F} {U : List F} (S : List A) (x : A) (D : List A) → af x ≡ false → ag x ≡ ft f → Track setting reps (Stage.away f r) gen last spare resets t U (S ++ x ∷ D) → Fits f x
    k_fits S x D fl tg k = s_fits ff ft af ag Fits S x D fl tg k.sync

    pub k_taken : {r : ℕ} {f : F} {U : List F} (S : List A) (x : A) (D : List A) → af x ≡ false → ag x ≡ ft f → Track setting reps (Stage.away f r) gen last spare resets t U (S ++ x ∷ D) → Track setting reps Stage.idle gen (ag x) r resets t U D
    k_taken {r} {f} {U} S x D fl tg k =
        let o = k.sync in
        let p = line_pass S o.dns in
        let kn = in_turn ff ft af ag Fits S x D fl tg o in
        record { sync = s_taken ff ft af ag Fits S x D fl tg o; bound = bound_taken setting gen spare resets r (ft f) (tally U (S ++ x ∷ D)) (tally U D) (t_shows S x U D false (ft f) fl tg) (all_one o.book o.n o.m p.0 U D false (ft f) o.ups p.4 (omega (arith, p.2, o.mn)) kn (ap ff o.shape.1 ∙ o.shape.3) (ap ft o.shape.1)) k.bound; as_tried = tt }

    -- a late frame
    pub k_spare_idle : {U : List F} (S : List A) (x : A) (D : List A) → Track setting reps Stage.idle gen last spare resets t U (S ++ x ∷ D) → 0 < spare
    k_spare_idle {U} S x D k = spare_ready setting gen spare resets (af x) (ag x) (tally U (S ++ x ∷ D)) (tally U D) (t_passed S x U D) k.bound

    pub k_late_idle : {U : List F} (S : List A) (x : A) (D : List A) (less : ℕ) → (less < last_spare → (less ≡ pred spare) × (spare < last_spare)) → Track setting reps Stage.idle gen last spare resets t U (S ++ x ∷ D) → Track setting reps Stage.idle gen last less resets t U D
    k_late_idle {U} S x D less l k = record { sync = s_unheard ff ft af ag Fits S x D k.sync; bound = late_ready setting gen spare less resets (af x) (ag x) (tally U (S ++ x ∷ D)) (tally U D) (t_passed S x U D) l k.bound; as_tried = tt }

    pub k_spare_away : {r : ℕ} {f : F} {U : List F} (S : List A) (x : A) (D : List A) → one (miss (ft f) (af x) (ag x)) ≡ 1 → Track setting reps (Stage.away f r) gen last spare resets t U (S ++ x ∷ D) → 0 < spare
    k_spare_away {r} {f} {U} S x D o k = spare_away setting gen spare resets r (ft f) (af x) (ag x) (tally U (S ++ x ∷ D)) (tally U D) (t_passed S x U D) o k.bound

    pub k_late_away : {r : ℕ} {f : F} {U : List F} (S : List A) (x : A) (D : List A) (less : ℕ) → one (miss (ft f) (af x) (ag x)) ≡ 1 → (less < last_spare → (less ≡ pred spare) × (spare < last_spare)) → Track setting reps (Stage.away f r) gen last spare resets t U (S ++ x ∷ D) → Track setting reps (Stage.away f r) gen last less resets t U D
    k_late_away {r} {f} {U} S x D less o l k = record { sync = s_unheard ff ft af ag Fits S x D k.sync; bound = late_away setting gen spare less resets r (ft f) (af x) (ag x) (tally U (S ++ x ∷ D)) (tally U D) (t_passed S x U D) o l k.bound; as_tried = k.as_tried }

    -- the TNC hears
    pub k_silent : {st : Stage F} {D : List A} (S : List F) (x : F) (U : List F) → Track setting reps st gen last spare resets t (S ++ x ∷ U) D → Track setting reps st gen last spare resets t U D
    k_silent {st} {D} S x U k = record { sync = s_silent ff ft af ag Fits S x U k.sync; bound = bound_fewer setting gen spare resets (phase st) (tally (S ++ x ∷ U) D) (tally U D) (t_silent S x U D) k.bound; as_tried = k.as_tried }

    pub k_reset : {st : Stage F} {D : List A} (S : List F) (x : F) (U : List F) (y : A) → ff x ≡ true → af y ≡ true → ag y ≡ ft x → Track setting reps st gen last spare resets t (S ++ x ∷ U) D → Track setting reps st gen last spare resets (knows (ft x) y) U (D ++ y ∷ [])
    k_reset {st} {D} S x U y fl yf yt k = record { sync = s_reset ff ft af ag Fits S x U y fl yf yt k.sync; bound = bound_fewer setting gen spare resets (phase st) (tally (S ++ x ∷ U) D) (tally U (D ++ y ∷ [])) (t_answered S x U D y (yf ∙ sym fl) yt) k.bound; as_tried = k.as_tried }

  module _ {setting reps : ℕ} {gen last : Bool} {spare resets : ℕ} {l : Bool} {h : A} where
    pub k_held : {st : Stage F} {D : List A} (S : List F) (x : F) (U : List F) → ff x ≡ false → ft x ≡ l → Track setting reps st gen last spare resets (knows l h) (S ++ x ∷ U) D → Track setting reps st gen last spare resets (knows l h) U (D ++ h ∷ [])
    k_held {st} {D} S x U fl tg k =
        let sh = held_shows ff ft af ag Fits S x U fl tg k.sync in
        record { sync = s_held ff ft af ag Fits S x U fl tg k.sync; bound = bound_fewer setting gen spare resets (phase st) (tally (S ++ x ∷ U) D) (tally U (D ++ h ∷ [])) (t_answered S x U D h sh.0 sh.1) k.bound; as_tried = k.as_tried }

    pub k_accept : {st : Stage F} {D : List A} (S : List F) (x : F) (U : List F) (y : A) → ff x ≡ false → (ft x ≡ l → ⊥) → af y ≡ false → ag y ≡ ft x → Fits x y → Track setting reps st gen last spare resets (knows l h) (S ++ x ∷ U) D → Track setting reps st gen last spare resets (knows (ft x) y) U (D ++ y ∷ [])
    k_accept {st} {D} S x U y fl tg yf yt fit k = record { sync = s_accept ff ft af ag Fits S x U y fl tg yf yt fit k.sync; bound = bound_fewer setting gen spare resets (phase st) (tally (S ++ x ∷ U) D) (tally U (D ++ y ∷ [])) (t_answered S x U D y (yf ∙ sym fl) yt) k.bound; as_tried = k.as_tried }
