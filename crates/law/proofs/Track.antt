-- Both ends and both lines as transmissions under hidden numbers, where the lines repeat nothing.
use Rattle.std.proofs.Common.{◌≡◌, ℕ, suc, ◌<◌, ◌≤◌, Bool, true, false, not, ◌⊎◌, List, [], ◌∷◌, ◌++◌, sym, refl, ap, ◌∙◌, inl, inr, ⊎_elim, arith}
use mathlib.Core.Bool.{beq}
use native.Mathlib.Decide.{ℕ_discrete}
use Rattle.law.proofs.Line.{Line, wrote, turn, lower}
use Rattle.law.proofs.Window.{line_pass}

pub data Stage (F : Type 0) : Type 0 where
  fresh : Stage F
  opening : ℕ → Stage F
  idle : Stage F
  away : F → ℕ → Stage F
  down : Stage F

-- the TNC: nothing heard yet, or the last toggle and the held answer
pub data Ear (A : Type 0) : Type 0 where
  deaf : Ear A
  knows : Bool → A → Ear A

pub never : ◌≡◌ {A = Bool} false true → ⊥
never e = let z : ◌≡◌ {A = ℕ} 0 1 = cc in omega arith

pub never_not : (a : Bool) → a ≡ not a → ⊥
never_not true e = never (sym e)
never_not false e = never e

pub not_not : (t : Bool) → t ≡ not (not t)
not_not true = refl
not_not false = refl

pub same : (a b : Bool) → beq a b ≡ true → a ≡ b
same true true e = refl
same true false e = sym e
same false true e = e
same false false e = refl

pub unlike : (a b : Bool) → beq a b ≡ false → a ≡ b → ⊥
unlike true true e p = never (sym e)
unlike true false e p = never (sym p)
unlike false true e p = never p
unlike false false e p = never (sym e)

pub last_two : (k n : ℕ) → k ≤ n → n ≤ suc k → (k ≡ n) ⊎ (suc k ≡ n)
last_two k n a b = elim (ℕ_discrete k n) [ yes e ↦ inl e | no h ↦ inr (omega arith) ]

-- a book of the distinct frames sent, by number
module _ {F : Type 0} where
  upd : (ℕ → F) → ℕ → F → ℕ → F
  upd book n f k = elim (ℕ_discrete k n) [ yes e ↦ f | no h ↦ book k ]

  new : (book : ℕ → F) (n : ℕ) (f : F) → upd book (suc n) f (suc n) ≡ f
  unfolding upd
  new book n f = elim (ℕ_discrete (suc n) (suc n)) as (λ d. elim d [ yes e ↦ f | no h ↦ book (suc n) ] ≡ f) [ yes e ↦ refl | no h ↦ absurd (h refl) ]

  old : (book : ℕ → F) (n : ℕ) (f : F) (k : ℕ) → k ≤ n → upd book (suc n) f k ≡ book k
  unfolding upd
  old book n f k le = elim (ℕ_discrete k (suc n)) as (λ d. elim d [ yes e ↦ f | no h ↦ book k ] ≡ book k) [ yes e ↦ absurd (omega arith) | no h ↦ refl ]

abbrev pub Before : Bool → ℕ → ℕ → Type 0
Before true n k = k < n
Before false n k = k ≤ n

module _ {F A : Type 0} (ff ft : F → Bool) (af ag : A → Bool) (Fits : F → A → Type 0) where
  abbrev pub UpQ : (ℕ → F) → ℕ → F → Type 0
  UpQ book k f = (1 ≤ k) × (ff f ≡ ff (book k)) × (ft f ≡ ft (book k)) × (ff (book k) ≡ false → f ≡ book k)

  abbrev pub DnQ : (ℕ → F) → ℕ → A → Type 0
  DnQ book k a = (1 ≤ k) × (af a ≡ ff (book k)) × (ag a ≡ ft (book k)) × (ff (book k) ≡ false → Fits (book k) a)

  abbrev pub Held : Ear A → (ℕ → F) → ℕ → Type 0
  Held deaf book m = Unit {0}
  Held (knows last held) book m = (last ≡ ft (book m)) × DnQ book m held

  abbrev pub Shape : Stage F → Bool → Bool → ℕ → ℕ → ℕ → (ℕ → F) → Type 0
  Shape fresh last pend n m j book = (n ≡ 0) × (pend ≡ false)
  Shape (opening r) last pend n m j book = pend ≡ true
  Shape idle last pend n m j book = (m ≡ n) × (j ≡ n) × (pend ≡ false) × (last ≡ ft (book n))
  Shape (away f r) last pend n m j book = (n ≤ suc j) × (book n ≡ f) × (pend ≡ false) × (ff f ≡ false) × ((k : ℕ) → suc k ≡ n → ft f ≡ not (ft (book k))) × (1 ≤ n)
  Shape down last pend n m j book = Unit {0}

  -- n: the host's last transmission; m: the last one heard by the TNC; j: the oldest one whose answer may still pass
  pub record Sync (st : Stage F) (gen last : Bool) (t : Ear A) (U : List F) (D : List A) : Type 0 where
    pub n : ℕ
    pub m : ℕ
    pub j : ℕ
    pub book : ℕ → F
    pub pend : Bool
    pub mn : m ≤ n
    pub ups : Line (UpQ book) n m U
    pub dns : Line (DnQ book) m j D
    pub held : Held t book m
    pub one : (k : ℕ) → 1 ≤ k → k ≤ n → ff (book k) ≡ false → k ≤ suc m
    pub alt : suc m ≤ n → ff (book (suc m)) ≡ false → ft (book (suc m)) ≡ not (ft (book m))
    pub gens : (k : ℕ) → j ≤ k → Before pend n k → 1 ≤ k → ff (book k) ≡ true → ft (book k) ≡ not gen
    pub top : pend ≡ true → (1 ≤ n) × (ff (book n) ≡ true) × (ft (book n) ≡ gen)
    pub shape : Shape st last pend n m j book

  held_old : (t : Ear A) (book : ℕ → F) (n m : ℕ) (f : F) → m ≤ n → Held t book m → Held t (upd book (suc n) f) m
  held_old deaf book n m f le h = h
  held_old (knows last y) book n m f le h = rw (old book n f m le) h

  ups_new : (book : ℕ → F) (n m : ℕ) (f : F) (U : List F) → Line (UpQ book) n m U → Line (UpQ (upd book (suc n) f)) (suc n) m (U ++ f ∷ [])
  ups_new book n m f U l = wrote f (omega arith, ap ff (sym (new book n f)), ap ft (sym (new book n f)), λ e. sym (new book n f)) (turn (omega arith) (λ k g lo hi q. rw (old book n f k hi) q) l)

  dns_new : (book : ℕ → F) (n m j : ℕ) (f : F) (D : List A) → m ≤ n → Line (DnQ book) m j D → Line (DnQ (upd book (suc n) f)) m j D
  dns_new book n m j f D le l = turn (omega arith) (λ k g lo hi q. rw (old book n f k (omega arith)) q) l

  abbrev pub fall : {st : Stage F} {gen last : Bool} {t : Ear A} {U : List F} {D : List A} → Sync st gen last t U D → Sync down gen last t U D
  fall s = record { n = s.n; m = s.m; j = s.j; book = s.book; pend = s.pend; mn = s.mn; ups = s.ups; dns = s.dns; held = s.held; one = s.one; alt = s.alt; gens = s.gens; top = s.top; shape = tt }

  -- a step
  pub s_step : {gen last : Bool} {t : Ear A} {U : List F} {D : List A} (f : F) → ff f ≡ false → ft f ≡ not last → Sync idle gen last t U D → Sync (away f 0) gen last t (U ++ f ∷ []) D
  s_step {gen} {last} {t} {U} {D} f fl tg s =
      let mn : s.m ≡ s.n = s.shape.0 in
      let book' : ℕ → F = upd s.book (suc s.n) f in
      let on : (k : ℕ) → k ≤ s.n → book' k ≡ s.book k = old s.book s.n f in
      let nw : book' (suc s.n) ≡ f = new s.book s.n f in
      let sm : suc s.m ≡ suc s.n = ap suc mn in
      record {
        n = suc s.n;
        m = s.m;
        j = s.j;
        book = book';
        pend = false;
        mn = omega arith;
        ups = ups_new s.book s.n _ f U s.ups;
        dns = dns_new s.book s.n _ _ f D s.mn s.dns;
        held = held_old t s.book s.n _ f s.mn s.held;
        one = λ k a b e. omega arith;
        alt = λ a e. ap ft (ap book' sm ∙ nw) ∙ tg ∙ ap not (s.shape.3 ∙ ap ft (sym (ap s.book mn) ∙ sym (on s.m s.mn)));
        gens = λ k a b c e. elim (ℕ_discrete k (suc s.n)) [ yes q ↦ absurd (never (sym fl ∙ ap ff (sym nw) ∙ ap (λ (x : ℕ). ff (book' x)) (sym q) ∙ e)) | no q ↦ rw (on k (omega arith)) (s.gens k a (rw s.shape.2 (omega arith)) c (rw (on k (omega arith)) at e)) ];
        top = λ e. absurd (never e);
        shape = (omega (arith, s.shape.1), nw, refl, fl, λ k e. let q : k ≡ s.n = omega arith in rw (on k (omega arith), q) (tg ∙ ap not s.shape.3), omega arith);
      }

  -- open: the reset of this generation, for the first time or again
  open_new : {st : Stage F} {gen last : Bool} {t : Ear A} {U : List F} {D : List A} (f : F) → ff f ≡ true → ft f ≡ gen → (s : Sync st gen last t U D) → s.pend ≡ false → Sync (opening 0) gen last t (U ++ f ∷ []) D
  open_new {st} {gen} {last} {t} {U} {D} f fl tg s np =
      let book' : ℕ → F = upd s.book (suc s.n) f in
      let on : (k : ℕ) → k ≤ s.n → book' k ≡ s.book k = old s.book s.n f in
      let nw : book' (suc s.n) ≡ f = new s.book s.n f in
      record {
        n = suc s.n;
        m = s.m;
        j = s.j;
        book = book';
        pend = true;
        mn = omega (arith, s.mn);
        ups = ups_new s.book s.n _ f U s.ups;
        dns = dns_new s.book s.n _ _ f D s.mn s.dns;
        held = held_old t s.book s.n _ f s.mn s.held;
        one = λ k a b e. elim (ℕ_discrete k (suc s.n)) [ yes q ↦ absurd (never (sym e ∙ ap (λ (x : ℕ). ff (book' x)) q ∙ ap ff nw ∙ fl)) | no q ↦ s.one k a (omega arith) (rw (on k (omega arith)) at e) ];
        alt = λ a e. elim (ℕ_discrete (suc s.m) (suc s.n)) [ yes q ↦ absurd (never (sym e ∙ ap (λ (x : ℕ). ff (book' x)) q ∙ ap ff nw ∙ fl)) | no q ↦ rw (on (suc s.m) (omega arith), on s.m s.mn) (s.alt (omega arith) (rw (on (suc s.m) (omega arith)) at e)) ];
        gens = λ k a b c e. rw (on k (omega arith)) (s.gens k a (rw np (omega arith)) c (rw (on k (omega arith)) at e));
        top = λ e. (omega arith, ap ff nw ∙ fl, ap ft nw ∙ tg);
        shape = refl;
      }

  open_old : (r : ℕ) {st : Stage F} {gen last : Bool} {t : Ear A} {U : List F} {D : List A} (f : F) → ff f ≡ true → ft f ≡ gen → (s : Sync st gen last t U D) → s.pend ≡ true → Sync (opening r) gen last t (U ++ f ∷ []) D
  open_old r {st} {gen} {last} {t} {U} {D} f fl tg s p =
      let tp = s.top p in
      record {
        n = s.n;
        m = s.m;
        j = s.j;
        book = s.book;
        pend = s.pend;
        mn = s.mn;
        ups = wrote f (tp.0, fl ∙ sym tp.1, tg ∙ sym tp.2, λ e. absurd (never (sym e ∙ tp.1))) s.ups;
        dns = s.dns;
        held = s.held;
        one = s.one;
        alt = s.alt;
        gens = s.gens;
        top = s.top;
        shape = p;
      }

  pub s_open : {st : Stage F} {gen last : Bool} {t : Ear A} {U : List F} {D : List A} (f : F) → ff f ≡ true → ft f ≡ gen → Sync st gen last t U D → Sync (opening 0) gen last t (U ++ f ∷ []) D
  s_open {st} {gen} {last} {t} {U} {D} f fl tg s = go s.pend refl
    where
      go : (b : Bool) → s.pend ≡ b → Sync (opening 0) gen last t (U ++ f ∷ []) D
      go true e = open_old 0 f fl tg s e
      go false e = open_new f fl tg s e

  pub s_reset_again : {r : ℕ} {gen last : Bool} {t : Ear A} {U : List F} {D : List A} (f : F) → ff f ≡ true → ft f ≡ gen → Sync (opening r) gen last t U D → Sync (opening (suc r)) gen last t (U ++ f ∷ []) D
  s_reset_again {r = r} f fl tg s = open_old (suc r) f fl tg s s.shape

  pub s_again : {r : ℕ} {gen last : Bool} {t : Ear A} {U : List F} {D : List A} {f : F} → Sync (away f r) gen last t U D → Sync (away f (suc r)) gen last t (U ++ f ∷ []) D
  s_again {f = f} s =
      record {
        n = s.n;
        m = s.m;
        j = s.j;
        book = s.book;
        pend = s.pend;
        mn = s.mn;
        ups = wrote f (s.shape.5, ap ff (sym s.shape.1), ap ft (sym s.shape.1), λ e. sym s.shape.1) s.ups;
        dns = s.dns;
        held = s.held;
        one = s.one;
        alt = s.alt;
        gens = s.gens;
        top = s.top;
        shape = s.shape;
      }

  -- an answer passes, and nothing else
  shape_later : (st : Stage F) (last pend : Bool) (n m j k : ℕ) (book : ℕ → F) → j ≤ k → k ≤ m → m ≤ n → Shape st last pend n m j book → Shape st last pend n m k book
  shape_later fresh last pend n m j k book a b c s = s
  shape_later (opening r) last pend n m j k book a b c s = s
  shape_later idle last pend n m j k book a b c s = (s.0, omega arith, s.2, s.3)
  shape_later (away f r) last pend n m j k book a b c s = (omega (arith, s.0), s.1, s.2, s.3, s.4, s.5)
  shape_later down last pend n m j k book a b c s = s

  pub s_unheard : {st : Stage F} {gen last : Bool} {t : Ear A} {U : List F} (S : List A) (x : A) (D : List A) → Sync st gen last t U (S ++ x ∷ D) → Sync st gen last t U D
  s_unheard {st} S x D s =
      let p = line_pass S s.dns in
      record { n = s.n; m = s.m; j = p.0; book = s.book; pend = s.pend; mn = s.mn; ups = s.ups; dns = p.4; held = s.held; one = s.one; alt = s.alt; gens = λ k a. s.gens k (omega (arith, p.1)); top = s.top; shape = shape_later st _ _ _ _ s.j _ _ p.1 p.2 s.mn s.shape }

  -- the reset's answer is heard
  pub open_turn : {r : ℕ} {gen last : Bool} {t : Ear A} {U : List F} (S : List A) (x : A) (D : List A) → af x ≡ true → ag x ≡ gen → (s : Sync (opening r) gen last t U (S ++ x ∷ D)) → (line_pass S s.dns).0 ≡ s.n
  open_turn {gen = gen} S x D fl tg s =
      let p = line_pass S s.dns in
      let q = p.3 in
      elim (ℕ_discrete p.0 s.n) [ yes e ↦ e | no h ↦ absurd (never_not gen (sym tg ∙ q.2 ∙ s.gens p.0 p.1 (rw s.shape (omega (arith, p.2, s.mn))) q.0 (sym q.1 ∙ fl))) ]

  pub s_opened : {r : ℕ} {gen last : Bool} {t : Ear A} {U : List F} (S : List A) (x : A) (D : List A) → af x ≡ true → ag x ≡ gen → Sync (opening r) gen last t U (S ++ x ∷ D) → Sync idle (not gen) (ag x) t U D
  s_opened {gen = gen} S x D fl tg s =
      let p = line_pass S s.dns in
      let q = p.3 in
      let kn = open_turn S x D fl tg s in
      let mn : s.m ≡ s.n = omega (arith, p.2, s.mn) in
      record {
        n = s.n;
        m = s.m;
        j = s.n;
        book = s.book;
        pend = false;
        mn = s.mn;
        ups = s.ups;
        dns = lower s.n (omega arith) p.4;
        held = s.held;
        one = s.one;
        alt = s.alt;
        gens = λ k a b c e. let kk : k ≡ s.n = omega arith in rw kk ((s.top s.shape).2 ∙ not_not gen);
        top = λ e. absurd (never e);
        shape = (mn, refl, refl, q.2 ∙ ap (λ (y : ℕ). ft (s.book y)) kn);
      }

  -- the answer in sequence is the one to the frame on its way
  pub in_turn : {r : ℕ} {gen last : Bool} {t : Ear A} {U : List F} (S : List A) (x : A) (D : List A) {f : F} → af x ≡ false → ag x ≡ ft f → (s : Sync (away f r) gen last t U (S ++ x ∷ D)) → (line_pass S s.dns).0 ≡ s.n
  in_turn S x D {f = f} fl tg s =
      let p = line_pass S s.dns in
      ⊎_elim (λ h. h) (λ h. absurd (never_not (ft f) (s.shape.4 p.0 h ∙ ap not (sym p.3.2 ∙ tg)))) (last_two p.0 s.n (omega (arith, p.2, s.mn)) (omega (arith, p.1, s.shape.0)))

  pub s_fits : {r : ℕ} {gen last : Bool} {t : Ear A} {U : List F} (S : List A) (x : A) (D : List A) {f : F} → af x ≡ false → ag x ≡ ft f → Sync (away f r) gen last t U (S ++ x ∷ D) → Fits f x
  s_fits S x D {f = f} fl tg s =
      let p = line_pass S s.dns in
      let kn = in_turn S x D fl tg s in
      let e : s.book p.0 ≡ f = ap s.book kn ∙ s.shape.1 in
      rw e at (p.3.3 (ap ff e ∙ s.shape.3))

  pub s_taken : {r : ℕ} {gen last : Bool} {t : Ear A} {U : List F} (S : List A) (x : A) (D : List A) {f : F} → af x ≡ false → ag x ≡ ft f → Sync (away f r) gen last t U (S ++ x ∷ D) → Sync idle gen (ag x) t U D
  s_taken S x D {f = f} fl tg s =
      let p = line_pass S s.dns in
      let q = p.3 in
      let kn = in_turn S x D fl tg s in
      let mn : s.m ≡ s.n = omega (arith, p.2, s.mn) in
      record {
        n = s.n;
        m = s.m;
        j = s.n;
        book = s.book;
        pend = s.pend;
        mn = s.mn;
        ups = s.ups;
        dns = lower s.n (omega arith) p.4;
        held = s.held;
        one = s.one;
        alt = s.alt;
        gens = λ k a b c e. s.gens k (omega (arith, p.1)) b c e;
        top = s.top;
        shape = (mn, refl, s.shape.2, q.2 ∙ ap (λ (y : ℕ). ft (s.book y)) kn);
      }

  -- the TNC
  shape_m : (st : Stage F) (last pend : Bool) (n m j k : ℕ) (book : ℕ → F) → m ≤ k → k ≤ n → Shape st last pend n m j book → Shape st last pend n k j book
  shape_m fresh last pend n m j k book a b s = s
  shape_m (opening r) last pend n m j k book a b s = s
  shape_m idle last pend n m j k book a b s = (omega (arith, s.0), s.1, s.2, s.3)
  shape_m (away f r) last pend n m j k book a b s = s
  shape_m down last pend n m j k book a b s = s

  pub s_silent : {st : Stage F} {gen last : Bool} {t : Ear A} (S : List F) (x : F) (U : List F) {D : List A} → Sync st gen last t (S ++ x ∷ U) D → Sync st gen last t U D
  s_silent S x U s =
      let p = line_pass S s.ups in
      record { n = s.n; m = s.m; j = s.j; book = s.book; pend = s.pend; mn = s.mn; ups = lower s.m p.1 p.4; dns = s.dns; held = s.held; one = s.one; alt = s.alt; gens = s.gens; top = s.top; shape = s.shape }

  pub s_reset : {st : Stage F} {gen last : Bool} {t : Ear A} (S : List F) (x : F) (U : List F) {D : List A} (y : A) → ff x ≡ true → af y ≡ true → ag y ≡ ft x → Sync st gen last t (S ++ x ∷ U) D → Sync st gen last (knows (ft x) y) U (D ++ y ∷ [])
  s_reset {st} S x U y fl yf yt s =
      let p = line_pass S s.ups in
      let k : ℕ = p.0 in
      let fk : ff (s.book k) ≡ true = sym p.3.1 ∙ fl in
      let dq : DnQ s.book k y = (p.3.0, yf ∙ sym fk, yt ∙ p.3.2, λ e. absurd (never (sym e ∙ fk))) in
      record {
        n = s.n;
        m = k;
        j = s.j;
        book = s.book;
        pend = s.pend;
        mn = p.2;
        ups = p.4;
        dns = wrote y dq (turn p.1 (λ c a lo hi q. q) s.dns);
        held = (p.3.2, dq);
        one = λ c a b e. omega (arith, s.one c a b e, p.1);
        alt = λ a e. let km : k ≡ s.m = omega (arith, s.one (suc k) (omega arith) a e, p.1) in rw km (s.alt (omega arith) (rw km at e));
        gens = s.gens;
        top = s.top;
        shape = shape_m st _ _ _ s.m _ _ _ p.1 p.2 s.shape;
      }

  -- a frame with the last toggle is the last one heard
  heard_again : {st : Stage F} {gen last : Bool} {l : Bool} {h : A} (S : List F) (x : F) (U : List F) {D : List A} → ff x ≡ false → ft x ≡ l → (s : Sync st gen last (knows l h) (S ++ x ∷ U) D) → (line_pass S s.ups).0 ≡ s.m
  heard_again S x U fl tg s =
      let p = line_pass S s.ups in
      let fk : ff (s.book p.0) ≡ false = sym p.3.1 ∙ fl in
      elim (ℕ_discrete p.0 s.m) [
        | yes h ↦ h
        | no h ↦
            (let ks : p.0 ≡ suc s.m = omega (arith, s.one p.0 p.3.0 p.2 fk, p.1) in
            let lt : suc s.m ≤ s.n = omega (arith, p.2) in
            absurd (never_not (ft (s.book s.m)) (sym s.held.0 ∙ sym tg ∙ p.3.2 ∙ ap (λ (z : ℕ). ft (s.book z)) ks ∙ s.alt lt (ap (λ (z : ℕ). ff (s.book z)) (sym ks) ∙ fk))))
      ]

  pub s_held : {st : Stage F} {gen last : Bool} {l : Bool} {h : A} (S : List F) (x : F) (U : List F) {D : List A} → ff x ≡ false → ft x ≡ l → Sync st gen last (knows l h) (S ++ x ∷ U) D → Sync st gen last (knows l h) U (D ++ h ∷ [])
  s_held {h = h} S x U fl tg s =
      let p = line_pass S s.ups in
      record {
        n = s.n;
        m = s.m;
        j = s.j;
        book = s.book;
        pend = s.pend;
        mn = s.mn;
        ups = lower s.m p.1 p.4;
        dns = wrote h s.held.1 s.dns;
        held = s.held;
        one = s.one;
        alt = s.alt;
        gens = s.gens;
        top = s.top;
        shape = s.shape;
      }

  pub held_shows : {st : Stage F} {gen last : Bool} {l : Bool} {h : A} (S : List F) (x : F) (U : List F) {D : List A} → ff x ≡ false → ft x ≡ l → Sync st gen last (knows l h) (S ++ x ∷ U) D → (af h ≡ ff x) × (ag h ≡ ft x)
  held_shows S x U fl tg s =
      let p = line_pass S s.ups in
      let km = heard_again S x U fl tg s in
      (s.held.1.1 ∙ ap (λ (z : ℕ). ff (s.book z)) (sym km) ∙ sym p.3.1, s.held.1.2 ∙ ap (λ (z : ℕ). ft (s.book z)) (sym km) ∙ sym p.3.2)

  pub s_accept : {st : Stage F} {gen last : Bool} {l : Bool} {h : A} (S : List F) (x : F) (U : List F) {D : List A} (y : A) → ff x ≡ false → (ft x ≡ l → ⊥) → af y ≡ false → ag y ≡ ft x → Fits x y → Sync st gen last (knows l h) (S ++ x ∷ U) D → Sync st gen last (knows (ft x) y) U (D ++ y ∷ [])
  s_accept {st} S x U y fl tg yf yt fits s =
      let p = line_pass S s.ups in
      let k : ℕ = p.0 in
      let fk : ff (s.book k) ≡ false = sym p.3.1 ∙ fl in
      let ne : k ≡ s.m → ⊥ = λ e. tg (p.3.2 ∙ ap (λ (z : ℕ). ft (s.book z)) e ∙ sym s.held.0) in
      let km : k ≡ suc s.m = omega (arith, s.one k p.3.0 p.2 fk, p.1, ne) in
      let xk : x ≡ s.book k = p.3.3 fk in
      let dq : DnQ s.book k y = (p.3.0, yf ∙ sym fk, yt ∙ p.3.2, λ e. rw (← xk) fits) in
      record {
        n = s.n;
        m = k;
        j = s.j;
        book = s.book;
        pend = s.pend;
        mn = p.2;
        ups = p.4;
        dns = wrote y dq (turn p.1 (λ c a lo hi q. q) s.dns);
        held = (p.3.2, dq);
        one = λ c a b e. omega (arith, s.one c a b e);
        alt = λ a e. absurd (omega (arith, s.one (suc k) (omega arith) a e));
        gens = s.gens;
        top = s.top;
        shape = shape_m st _ _ _ s.m _ _ _ p.1 p.2 s.shape;
      }
