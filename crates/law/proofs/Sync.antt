-- The transmissions and the two lines: what each call does to the hidden numbers.
use Rattle.std.proofs.Common.{◌≡◌, ℕ, suc, ◌<◌, ◌≤◌, Bool, true, false, not, ◌⊎◌, List, [], ◌∷◌, ◌++◌, length, get_or, drop, sym, refl, ap, ◌∙◌, inl, inr, ⊎_elim, arith, length-append}
use mathlib.Core.Bool.{beq}
use native.Mathlib.Decide.{ℕ_discrete}
use Rattle.ends.specs.Frames.{Request, Answer, empty, cargo_in}
use Rattle.ends.specs.Host.{State, fresh, opening, idle, on_its_way, down, reset_request}
use Rattle.ends.specs.Tnc.{no_answer}
use Rattle.law.specs.Runs.{no_request}
use Rattle.law.proofs.Line.{Line, none, pass, write, turn, lower, line_le}

pub never : ◌≡◌ {A = Bool} false true → ⊥
never e = let z : ◌≡◌ {A = ℕ} 0 1 = cc in omega arith

pub not_not : (t : Bool) → t ≡ not (not t)
not_not true = refl
not_not false = refl

pub never_not : (a : Bool) → a ≡ not a → ⊥
never_not true e = never (sym e)
never_not false e = never e

pub same_toggle : (a b : Bool) → beq a b ≡ true → a ≡ b
same_toggle true true e = refl
same_toggle true false e = sym e
same_toggle false true e = e
same_toggle false false e = refl

pub unlike : (a b : Bool) → beq a b ≡ false → a ≡ b → ⊥
unlike true true e p = never (sym e)
unlike true false e p = never (sym p)
unlike false true e p = never p
unlike false false e p = never (sym e)

pub last_two : (k n : ℕ) → k ≤ n → n ≤ suc k → (k ≡ n) ⊎ (suc k ≡ n)
last_two k n a b = elim (ℕ_discrete k n) [ yes e ↦ inl e | no h ↦ inr (omega arith) ]

-- a book of the distinct frames sent, by their serial numbers
upd : (ℕ → Request) → ℕ → Request → ℕ → Request
upd book n f k = elim (ℕ_discrete k n) [ yes e ↦ f | no h ↦ book k ]

upd_new : (book : ℕ → Request) (n : ℕ) (f : Request) → upd book n f n ≡ f
unfolding upd
upd_new book n f = elim (ℕ_discrete n n) as (λ d. elim d [ yes e ↦ f | no h ↦ book n ] ≡ f) [ yes e ↦ refl | no h ↦ absurd (h refl) ]

upd_old : (book : ℕ → Request) (n : ℕ) (f : Request) (k : ℕ) → k < n → upd book n f k ≡ book k
unfolding upd
upd_old book n f k lt = elim (ℕ_discrete k n) as (λ d. elim d [ yes e ↦ f | no h ↦ book k ] ≡ book k) [ yes e ↦ absurd (omega arith) | no h ↦ refl ]

abbrev pub UpQ : (ℕ → Request) → ℕ → Request → Type 0
UpQ book k f = (1 ≤ k) × (f ≡ book k)

abbrev pub DnQ : (ℕ → Request) → ℕ → Answer → ℕ → Answer → Type 0
DnQ book m held k a = (1 ≤ k) × (a.reset ≡ (book k).reset) × (a.toggle ≡ (book k).toggle) × (k ≡ m → (book k).reset ≡ false → a ≡ held)

abbrev pub Before : Bool → ℕ → ℕ → Type 0
Before true n k = k < n
Before false n k = k ≤ n

abbrev pub Shape : State → Bool → Bool → ℕ → ℕ → ℕ → (ℕ → Request) → Type 0
Shape fresh last pend n m j book = (n ≡ 0) × (pend ≡ false)
Shape (opening r) last pend n m j book = pend ≡ true
Shape idle last pend n m j book = (m ≡ n) × (j ≡ n) × (pend ≡ false) × (last ≡ (book n).toggle)
Shape (on_its_way f r) last pend n m j book = (n ≤ suc j) × (book n ≡ f) × (pend ≡ false) × (f.reset ≡ false) × ((k : ℕ) → suc k ≡ n → f.toggle ≡ not (book k).toggle) × (1 ≤ n)
Shape down last pend n m j book = Unit {0}

-- n: the number of the current transmission; m: the last that the TNC heard; j: the lowest that an answer may still answer;
-- pend: this generation's reset has been sent
pub record Sync (n m j : ℕ) (book : ℕ → Request) (pend : Bool) (st : State) (generation last ready tlast : Bool) (held : Answer) (up : List Request) (up_at : ℕ) (dn : List Answer) (dn_at : ℕ) : Type 0 where
  pub mn : m ≤ n
  pub up_in : up_at ≤ length up
  pub dn_in : dn_at ≤ length dn
  pub ups : Line (UpQ book) n m (drop up_at up)
  pub dns : Line (DnQ book m held) m j (drop dn_at dn)
  pub heard : ready ≡ true → (1 ≤ m) × (tlast ≡ (book m).toggle) × (held.reset ≡ (book m).reset) × (held.toggle ≡ (book m).toggle)
  pub bare : (book m).reset ≡ true → cargo_in held.reply ≡ empty
  pub one : (k : ℕ) → 1 ≤ k → k ≤ n → (book k).reset ≡ false → k ≤ suc m
  pub alt : suc m ≤ n → (book (suc m)).reset ≡ false → (book (suc m)).toggle ≡ not (book m).toggle
  pub gens : (k : ℕ) → j ≤ k → Before pend n k → 1 ≤ k → (book k).reset ≡ true → (book k).toggle ≡ not generation
  pub top : pend ≡ true → (1 ≤ n) × (book n ≡ reset_request generation)
  pub shape : Shape st last pend n m j book

pub sync_begin : Sync 0 0 0 (λ k. no_request) false fresh false false false false no_answer [] 0 [] 0
sync_begin = record { mn = omega arith; up_in = omega arith; dn_in = omega arith; ups = none (omega arith); dns = none (omega arith); heard = λ e. absurd (never e); bare = λ e. refl; one = λ k a b e. omega arith; alt = λ a. absurd (omega arith); gens = λ k a b c e. absurd (omega arith); top = λ e. absurd (never e); shape = (refl, refl) }

shape_later : (st : State) (last pend : Bool) (n m j k : ℕ) (book : ℕ → Request) → j ≤ k → k ≤ m → m ≤ n → Shape st last pend n m j book → Shape st last pend n m k book
shape_later fresh last pend n m j k book a b c s = s
shape_later (opening r) last pend n m j k book a b c s = s
shape_later idle last pend n m j k book a b c s = (s.0, omega arith, s.2, s.3)
shape_later (on_its_way f r) last pend n m j k book a b c s = (omega (arith, s.0), s.1, s.2, s.3, s.4, s.5)
shape_later down last pend n m j k book a b c s = s

-- the TNC's serial number goes from m to k
shape_m : (st : State) (last pend : Bool) (n m j k : ℕ) (book : ℕ → Request) → m ≤ k → k ≤ n → Shape st last pend n m j book → Shape st last pend n k j book
shape_m fresh last pend n m j k book a b s = s
shape_m (opening r) last pend n m j k book a b s = s
shape_m idle last pend n m j k book a b s = (omega (arith, s.0), s.1, s.2, s.3)
shape_m (on_its_way f r) last pend n m j k book a b s = s
shape_m down last pend n m j k book a b s = s

-- the host sends a frame with a new serial number
module _ (book : ℕ → Request) (n : ℕ) (f : Request) where
  pub book' : ℕ → Request
  book' = upd book (suc n) f

  pub old : (k : ℕ) → k ≤ n → book' k ≡ book k
  unfolding book'
  old k h = upd_old book (suc n) f k (omega arith)

  pub new : book' (suc n) ≡ f
  unfolding book'
  new = upd_new book (suc n) f

  ups_old : (m : ℕ) (up : List Request) (up_at : ℕ) → 1 ≤ suc n → up_at ≤ length up → Line (UpQ book) n m (drop up_at up) → Line (UpQ book') (suc n) m (drop up_at (up ++ f ∷ []))
  ups_old m up up_at a b l = write up up_at f b (a, sym new) (turn (omega arith) (λ k g lo hi q. (q.0, q.1 ∙ sym (old k hi))) l)

  dns_old : (m j : ℕ) (held : Answer) (dn : List Answer) → m ≤ n → Line (DnQ book m held) m j dn → Line (DnQ book' m held) m j dn
  dns_old m j held dn mn l = turn (omega arith) (λ k g lo hi q. (q.0, rw (old k (omega arith)) q.1, rw (old k (omega arith)) q.2, rw (old k (omega arith)) q.3)) l

module _ {n m j : ℕ} {book : ℕ → Request} {pend : Bool} {generation last ready tlast : Bool} {held : Answer} {up : List Request} {up_at : ℕ} {dn : List Answer} {dn_at : ℕ} where
  pub sync_fall : {st : State} → Sync n m j book pend st generation last ready tlast held up up_at dn dn_at → Sync n m j book pend down generation last ready tlast held up up_at dn dn_at
  sync_fall s = record { mn = s.mn; up_in = s.up_in; dn_in = s.dn_in; ups = s.ups; dns = s.dns; heard = s.heard; bare = s.bare; one = s.one; alt = s.alt; gens = s.gens; top = s.top; shape = tt }

  pub sync_moved : (st : State) (x : ℕ) → dn_at ≤ x → x < length dn → Sync n m j book pend st generation last ready tlast held up up_at dn dn_at → (k : ℕ) × (j ≤ k) × (k ≤ m) × Sync n m k book pend st generation last ready tlast held up up_at dn x
  sync_moved st x a b s =
      let p = pass dn dn_at x no_answer a b s.dns in
      (p.0, p.1, p.2, record { mn = s.mn; up_in = s.up_in; dn_in = omega arith; ups = s.ups; dns = p.4; heard = s.heard; bare = s.bare; one = s.one; alt = s.alt; gens = λ k c. s.gens k (omega (arith, p.1)); top = s.top; shape = shape_later st _ _ _ _ j _ _ p.1 p.2 s.mn s.shape })

  pub sync_step : (f : Request) → f.reset ≡ false → f.toggle ≡ not last → Sync n m j book pend idle generation last ready tlast held up up_at dn dn_at → Sync (suc n) m j (book' book n f) false (on_its_way f 0) generation last ready tlast held (up ++ f ∷ []) up_at dn dn_at
  sync_step f fl tg s =
      let mn : m ≡ n = s.shape.0 in
      let on : (k : ℕ) → k ≤ n → book' book n f k ≡ book k = old book n f in
      let nw : book' book n f (suc n) ≡ f = new book n f in
      let sm : suc m ≡ suc n = ap suc mn in
      record {
        mn = omega arith;
        up_in = simp length-append (omega (arith, s.up_in));
        dn_in = s.dn_in;
        ups = ups_old book n f _ _ _ (omega arith) s.up_in s.ups;
        dns = dns_old book n f _ _ _ _ s.mn s.dns;
        heard = λ e. rw (on m s.mn) (s.heard e);
        bare = λ e. s.bare (rw (on m s.mn) at e);
        one = λ k a b e. omega arith;
        alt = λ a e. rw (ap (book' book n f) sm ∙ nw, on m s.mn, ap book mn) (tg ∙ ap not s.shape.3);
        gens = λ k a b c e. elim (ℕ_discrete k (suc n)) [ yes q ↦ absurd (never (sym fl ∙ ap (λ (y : Request). y.reset) (sym nw) ∙ ap (λ (x : ℕ). (book' book n f x).reset) (sym q) ∙ e)) | no q ↦ rw (on k (omega arith)) (s.gens k a (rw s.shape.2 (omega arith)) c (rw (on k (omega arith)) at e)) ];
        top = λ e. absurd (never e);
        shape = (omega (arith, s.shape.1), nw, refl, fl, λ k e. let q : k ≡ n = omega arith in rw (on k (omega arith), q) (tg ∙ ap not s.shape.3), omega arith);
      }

  pub sync_open_new : {st : State} → pend ≡ false → Sync n m j book pend st generation last ready tlast held up up_at dn dn_at → Sync (suc n) m j (book' book n (reset_request generation)) true (opening 0) generation last ready tlast held (up ++ reset_request generation ∷ []) up_at dn dn_at
  sync_open_new np s =
      let on : (k : ℕ) → k ≤ n → book' book n (reset_request generation) k ≡ book k = old book n (reset_request generation) in
      let nw : book' book n (reset_request generation) (suc n) ≡ reset_request generation = new book n (reset_request generation) in
      record {
        mn = omega (arith, s.mn);
        up_in = simp length-append (omega (arith, s.up_in));
        dn_in = s.dn_in;
        ups = ups_old book n (reset_request generation) _ _ _ (omega arith) s.up_in s.ups;
        dns = dns_old book n (reset_request generation) _ _ _ _ s.mn s.dns;
        heard = λ e. rw (on m s.mn) (s.heard e);
        bare = λ e. s.bare (rw (on m s.mn) at e);
        one = λ k a b e. elim (ℕ_discrete k (suc n)) [ yes q ↦ absurd (never (sym e ∙ ap (λ (x : ℕ). (book' book n (reset_request generation) x).reset) q ∙ ap (λ (y : Request). y.reset) nw)) | no q ↦ s.one k a (omega arith) (rw (on k (omega arith)) at e) ];
        alt = λ a e. elim (ℕ_discrete (suc m) (suc n)) [ yes q ↦ absurd (never (sym e ∙ ap (λ (x : ℕ). (book' book n (reset_request generation) x).reset) q ∙ ap (λ (y : Request). y.reset) nw)) | no q ↦ rw (on (suc m) (omega arith), on m s.mn) (s.alt (omega arith) (rw (on (suc m) (omega arith)) at e)) ];
        gens = λ k a b c e. rw (on k (omega arith)) (s.gens k a (rw np (omega arith)) c (rw (on k (omega arith)) at e));
        top = λ e. (omega arith, nw);
        shape = refl;
      }

  pub sync_open_old : (r : ℕ) {st : State} → pend ≡ true → Sync n m j book pend st generation last ready tlast held up up_at dn dn_at → Sync n m j book pend (opening r) generation last ready tlast held (up ++ reset_request generation ∷ []) up_at dn dn_at
  sync_open_old r p s =
      record {
        mn = s.mn;
        up_in = simp length-append (omega (arith, s.up_in));
        dn_in = s.dn_in;
        ups = write up up_at (reset_request generation) s.up_in ((s.top p).0, sym (s.top p).1) s.ups;
        dns = s.dns;
        heard = s.heard;
        bare = s.bare;
        one = s.one;
        alt = s.alt;
        gens = s.gens;
        top = s.top;
        shape = p;
      }

  pub sync_again : (f : Request) (r : ℕ) → Sync n m j book pend (on_its_way f r) generation last ready tlast held up up_at dn dn_at → Sync n m j book pend (on_its_way f (suc r)) generation last ready tlast held (up ++ f ∷ []) up_at dn dn_at
  sync_again f r s = record { mn = s.mn; up_in = simp length-append (omega (arith, s.up_in)); dn_in = s.dn_in; ups = write up up_at f s.up_in (s.shape.5, sym s.shape.1) s.ups; dns = s.dns; heard = s.heard; bare = s.bare; one = s.one; alt = s.alt; gens = s.gens; top = s.top; shape = s.shape }

  pub sync_opens : (r x : ℕ) → dn_at ≤ x → x < length dn → (get_or dn x no_answer).reset ≡ true → beq (get_or dn x no_answer).toggle generation ≡ true → Sync n m j book pend (opening r) generation last ready tlast held up up_at dn dn_at → (m ≡ n) × ((book m).reset ≡ true) × Sync n m n book false idle (not generation) (get_or dn x no_answer).toggle ready tlast held up up_at dn x
  sync_opens r x a b fl tg s =
      let p = pass dn dn_at x no_answer a b s.dns in
      let q = p.3 in
      let kn : p.0 ≡ n = elim (ℕ_discrete p.0 n) [ yes e ↦ e | no h ↦ absurd (never_not generation (sym (same_toggle _ _ tg) ∙ q.2 ∙ s.gens p.0 p.1 (rw s.shape (omega (arith, p.2, s.mn))) q.0 (sym q.1 ∙ fl))) ] in
      let mn : m ≡ n = omega (arith, p.2, s.mn) in (
        mn,
        ap (λ (y : ℕ). (book y).reset) mn ∙ ap (λ (y : Request). y.reset) (s.top s.shape).1,
        record {
          mn = s.mn;
          up_in = s.up_in;
          dn_in = omega arith;
          ups = s.ups;
          dns = lower n (omega arith) p.4;
          heard = s.heard;
          bare = s.bare;
          one = s.one;
          alt = s.alt;
          gens = λ k c d e h. let kk : k ≡ n = omega arith in rw (kk, (s.top s.shape).1) (not_not generation);
          top = λ e. absurd (never e);
          shape = (mn, refl, refl, q.2 ∙ ap (λ (y : ℕ). (book y).toggle) kn);
        },
      )

  pub sync_takes : (f : Request) (r x : ℕ) → dn_at ≤ x → x < length dn → (get_or dn x no_answer).reset ≡ false → beq (get_or dn x no_answer).toggle f.toggle ≡ true → Sync n m j book pend (on_its_way f r) generation last ready tlast held up up_at dn dn_at → (m ≡ n) × (get_or dn x no_answer ≡ held) × Sync n m n book false idle generation (get_or dn x no_answer).toggle ready tlast held up up_at dn x
  sync_takes f r x a b fl tg s =
      let p = pass dn dn_at x no_answer a b s.dns in
      let q = p.3 in
      let kn : p.0 ≡ n = ⊎_elim (λ h. h) (λ h. absurd (never_not f.toggle (s.shape.4 p.0 h ∙ ap not (sym q.2 ∙ same_toggle _ _ tg)))) (last_two p.0 n (omega (arith, p.2, s.mn)) (omega (arith, p.1, s.shape.0))) in
      let mn : m ≡ n = omega (arith, p.2, s.mn) in
      let ah : get_or dn x no_answer ≡ held = q.3 (omega arith) (ap (λ (y : ℕ). (book y).reset) kn ∙ ap (λ (y : Request). y.reset) s.shape.1 ∙ s.shape.3) in (
        mn,
        ah,
        record {
          mn = s.mn;
          up_in = s.up_in;
          dn_in = omega arith;
          ups = s.ups;
          dns = lower n (omega arith) p.4;
          heard = s.heard;
          bare = s.bare;
          one = s.one;
          alt = s.alt;
          gens = λ k c d e h. s.gens k (omega (arith, line_le s.dns)) (rw s.shape.2 d) e h;
          top = λ e. absurd (never e);
          shape = (mn, refl, refl, q.2 ∙ ap (λ (y : ℕ). (book y).toggle) kn);
        },
      )

  pub sync_deaf : {st : State} (x : ℕ) → up_at ≤ x → x < length up → Sync n m j book pend st generation last ready tlast held up up_at dn dn_at → Sync n m j book pend st generation last ready tlast held up x dn dn_at
  sync_deaf x a b s =
      let p = pass up up_at x no_request a b s.ups in
      record { mn = s.mn; up_in = omega arith; dn_in = s.dn_in; ups = lower m p.1 p.4; dns = s.dns; heard = s.heard; bare = s.bare; one = s.one; alt = s.alt; gens = s.gens; top = s.top; shape = s.shape }

  pub sync_held : {st : State} (x : ℕ) → up_at ≤ x → x < length up → ready ≡ true → Sync n m j book pend st generation last ready tlast held up up_at dn dn_at → Sync n m j book pend st generation last ready tlast held up x (dn ++ held ∷ []) dn_at
  sync_held x a b rd s =
      let p = pass up up_at x no_request a b s.ups in
      let y = s.heard rd in
      record {
        mn = s.mn;
        up_in = omega arith;
        dn_in = simp length-append (omega (arith, s.dn_in));
        ups = lower m p.1 p.4;
        dns = write dn dn_at held s.dn_in (y.0, y.2, y.3, λ c d. refl) s.dns;
        heard = s.heard;
        bare = s.bare;
        one = s.one;
        alt = s.alt;
        gens = s.gens;
        top = s.top;
        shape = s.shape;
      }

  pub sync_resets : (st : State) (x : ℕ) (a : Answer) → up_at ≤ x → x < length up → (get_or up x no_request).reset ≡ true → a.reset ≡ (get_or up x no_request).reset → a.toggle ≡ (get_or up x no_request).toggle → cargo_in a.reply ≡ empty → Sync n m j book pend st generation last ready tlast held up up_at dn dn_at → (k : ℕ) × (m ≤ k) × (k ≤ n) × ((book k).reset ≡ true) × Sync n k j book pend st generation last true (get_or up x no_request).toggle a up x (dn ++ a ∷ []) dn_at
  sync_resets st x a lo hi fl af at nc s =
      let p = pass up up_at x no_request lo hi s.ups in
      let k : ℕ = p.0 in
      let fk : (book k).reset ≡ true = ap (λ (y : Request). y.reset) (sym p.3.1) ∙ fl in
      let tk : (get_or up x no_request).toggle ≡ (book k).toggle = ap (λ (y : Request). y.toggle) p.3.1 in
      let jm = line_le s.dns in (
        k,
        p.1,
        p.2,
        fk,
        record {
          mn = p.2;
          up_in = omega arith;
          dn_in = simp length-append (omega (arith, s.dn_in));
          ups = p.4;
          dns = write dn dn_at a s.dn_in (p.3.0, af ∙ fl ∙ sym fk, at ∙ tk, λ c b. absurd (never (sym b ∙ fk))) (turn p.1 (λ c b lo hi q. (q.0, q.1, q.2, λ e d. absurd (never (sym d ∙ ap (λ (z : ℕ). (book z).reset) e ∙ fk)))) s.dns);
          heard = λ e. (p.3.0, tk, af ∙ fl ∙ sym fk, at ∙ tk);
          bare = λ e. nc;
          one = λ c b d e. omega (arith, s.one c b d e, p.1);
          alt = λ b e. let km : k ≡ m = omega (arith, s.one (suc k) (omega arith) b e, p.1) in rw km (s.alt (omega arith) (rw km at e));
          gens = s.gens;
          top = s.top;
          shape = shape_m st _ _ _ m _ _ _ p.1 p.2 s.shape;
        },
      )

  pub sync_accepts : (st : State) (x : ℕ) (a : Answer) → up_at ≤ x → x < length up → (get_or up x no_request).reset ≡ false → ready ≡ true → beq (get_or up x no_request).toggle tlast ≡ false → a.reset ≡ (get_or up x no_request).reset → a.toggle ≡ (get_or up x no_request).toggle → Sync n m j book pend st generation last ready tlast held up up_at dn dn_at → (suc m ≤ n) × (get_or up x no_request ≡ book (suc m)) × ((book (suc m)).reset ≡ false) × Sync n (suc m) j book pend st generation last true (get_or up x no_request).toggle a up x (dn ++ a ∷ []) dn_at
  sync_accepts st x a lo hi fl rd tg af at s =
      let p = pass up up_at x no_request lo hi s.ups in
      let k : ℕ = p.0 in
      let f : Request = get_or up x no_request in
      let fk : (book k).reset ≡ false = ap (λ (y : Request). y.reset) (sym p.3.1) ∙ fl in
      let tk : f.toggle ≡ (book k).toggle = ap (λ (y : Request). y.toggle) p.3.1 in
      let ne : k ≡ m → ⊥ = λ e. unlike _ _ tg (tk ∙ ap (λ (z : ℕ). (book z).toggle) e ∙ sym (s.heard rd).1) in
      let km : k ≡ suc m = omega (arith, s.one k p.3.0 p.2 fk, p.1, ne) in
      let lt : suc m ≤ n = omega (arith, p.2) in
      let fs : f ≡ book (suc m) = p.3.1 ∙ ap book km in
      let fls : (book (suc m)).reset ≡ false = ap (λ (y : Request). y.reset) (sym fs) ∙ fl in
      let ts : f.toggle ≡ (book (suc m)).toggle = ap (λ (y : Request). y.toggle) fs in (
        lt,
        fs,
        fls,
        record {
          mn = lt;
          up_in = omega arith;
          dn_in = simp length-append (omega (arith, s.dn_in));
          ups = lower (suc m) (omega arith) p.4;
          dns = write dn dn_at a s.dn_in (omega arith, af ∙ fl ∙ sym fls, at ∙ ts, λ c b. refl) (turn (omega arith) (λ c b lo hi q. (q.0, q.1, q.2, λ e d. absurd (omega arith))) s.dns);
          heard = λ e. (omega arith, ts, af ∙ fl ∙ sym fls, at ∙ ts);
          bare = λ e. absurd (never (sym fls ∙ e));
          one = λ c b d e. omega (arith, s.one c b d e);
          alt = λ b e. absurd (omega (arith, s.one (suc (suc m)) (omega arith) b e));
          gens = s.gens;
          top = s.top;
          shape = shape_m st _ _ _ m _ _ _ (omega arith) lt s.shape;
        },
      )
