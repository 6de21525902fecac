-- One way, one channel: what is gone, with its blocks; the word of an answer; the law from the books.
use Rattle.std.proofs.Common.{◌≡◌, ℕ, suc, ◌+◌, ◌<◌, ◌≤◌, Bool, true, false, cond, eqb, List, [], ◌∷◌, ◌++◌, length, get_or, drop, sym, refl, ap, ◌∙◌, subst, subst₂, append_assoc, append-nil, arith, length-append, eqb-true}
use Rattle.poll.specs.Channel.{last_channel}
use Rattle.store.specs.Rules.{drop_after}
use Rattle.store.specs.Meaning.{Block, Meaning, plain}
use Rattle.ends.specs.Limits.{last_number}
use Rattle.ends.specs.Frames.{Cargo, empty, holds}
use Rattle.ends.specs.Blocks.{confirm_of, doubt_of, leaves, one_more_counted, counts}
use Rattle.law.specs.Runs.{Named, confirmed, doubtful, Way, names}
use Rattle.law.proofs.Stores.{drop_view}
use Rattle.law.specs.Law.{Settled, unnamed, came, kept, lost, AtMostFirst, none_of, the_first, NoDoubt, numbers, count_from, delivered, Delivers}

pub data Gone : Type 0 where
  sure_b : Block → Gone
  doubt_b : Block → Gone

abbrev pub block_of : Gone → Block
block_of (sure_b b) = b
block_of (doubt_b b) = b

abbrev pub blocks : List Gone → List Block
blocks [] = []
blocks (g ∷ gs) = block_of g ∷ blocks gs

abbrev pub name_at : ℕ → Gone → Named
name_at k (sure_b b) = confirmed (suc k)
name_at k (doubt_b b) = doubtful (suc k)

abbrev pub numbered : ℕ → List Gone → List Named
numbered k [] = []
numbered k (g ∷ gs) = name_at k g ∷ numbered (suc k) gs

-- every confirmed block and any number of the doubtful ones
pub data Kept : List Gone → List Block → Type 0 where
  none' : Kept [] []
  came' : (b : Block) (g : List Gone) (d : List Block) → Kept g d → Kept (g ++ sure_b b ∷ []) (d ++ b ∷ [])
  kept' : (b : Block) (g : List Gone) (d : List Block) → Kept g d → Kept (g ++ doubt_b b ∷ []) (d ++ b ∷ [])
  lost' : (b : Block) (g : List Gone) (d : List Block) → Kept g d → Kept (g ++ doubt_b b ∷ []) d

abbrev pub block_in : Cargo → List Block
block_in empty = []
block_in (holds b) = b ∷ []

abbrev pub sure_in : Cargo → List Gone
sure_in empty = []
sure_in (holds b) = sure_b b ∷ []

abbrev pub doubt_in : Cargo → List Gone
doubt_in empty = []
doubt_in (holds b) = doubt_b b ∷ []

-- what is carried for channel c
abbrev pub carried : ℕ → ℕ → Cargo → Cargo
carried c c' y = cond (eqb c c') y empty

pub carried_empty : (c c' : ℕ) (y : Cargo) → y ≡ empty → carried c c' y ≡ empty
carried_empty c c' y e = go (eqb c c')
  where
    go : (b : Bool) → cond b y empty ≡ empty
    go true = e
    go false = refl

-- lists
pub blocks_++ : (g h : List Gone) → blocks (g ++ h) ≡ blocks g ++ blocks h
blocks_++ [] h = refl
blocks_++ (x ∷ g) h = ap (λ (r : List Block). block_of x ∷ r) (blocks_++ g h)

blocks_length : (g : List Gone) → length (blocks g) ≡ length g
blocks_length [] = refl
blocks_length (x ∷ g) = ap suc (blocks_length g)

numbered_length : (k : ℕ) (g : List Gone) → length (numbered k g) ≡ length g
numbered_length k [] = refl
numbered_length k (x ∷ g) = ap suc (numbered_length (suc k) g)

numbered_snoc : (k j : ℕ) (g : List Gone) (x : Gone) → j ≡ k + length g → numbered k (g ++ x ∷ []) ≡ numbered k g ++ name_at j x ∷ []
numbered_snoc k j [] x e = let h : k ≡ j = omega arith in ap (λ (z : ℕ). name_at z x ∷ []) h
numbered_snoc k j (y ∷ g) x e = ap (λ (r : List Named). name_at k y ∷ r) (numbered_snoc (suc k) j g x (omega arith))

at_length : (xs : List Block) (b : Block) (ys : List Block) → get_or (xs ++ b ∷ ys) (length xs) (plain []) ≡ b
at_length [] b ys = refl
at_length (x ∷ xs) b ys = at_length xs b ys

drop_length : (xs ys : List Block) → drop (length xs) (xs ++ ys) ≡ ys
drop_length [] ys = refl
drop_length (x ∷ xs) ys = drop_length xs ys

-- what is gone, and the books
pub record Books (s : List Block) (x : List Named) (out : List Block) (cnt sub : ℕ) (gone : List Gone) : Type 0 where
  pub named : x ≡ numbered 0 gone
  pub kept : s ≡ blocks gone ++ out
  pub counted : cnt ≡ length gone
  pub subs : sub ≡ length s
  pub most : sub ≤ last_number

-- a word on one channel
abbrev pub drop_c : Cargo → List Block → List Block
drop_c empty q = q
drop_c (holds b) q = drop 1 q

abbrev pub count_c : Cargo → ℕ → ℕ
count_c empty k = k
count_c (holds b) k = one_more_counted k

abbrev pub name_c : (ℕ → Named) → Cargo → ℕ → List Named → List Named
name_c mk empty k x = x
name_c mk (holds b) k x = x ++ mk (one_more_counted k) ∷ []

-- a word of an answer, seen on channel c: mk is confirmed or doubtful
module _ (P : List Block → ℕ → List Named → Type 0) (c c' : ℕ) (low : c ≤ last_channel) (q : Meaning) (g : ℕ → ℕ) (x : ℕ → List Named) where
  abbrev At : (ℕ → Named) → Cargo → Type 0
  At mk y = P (drop_c (carried c c' y) (q.waiting c)) (count_c (carried c c' y) (g c)) (name_c mk (carried c c' y) (g c) (x c))

  at_none : (mk : ℕ → Named) → At mk empty → P (q.waiting c) (g c) (x c)
  at_none mk h = go (eqb c c') h
    where
      go : (b : Bool) → P (drop_c (cond b empty empty) (q.waiting c)) (count_c (cond b empty empty) (g c)) (name_c mk (cond b empty empty) (g c) (x c)) → P (q.waiting c) (g c) (x c)
      go true p = p
      go false p = p

  at_block : (mk : ℕ → Named) (y : Block) → At mk (holds y) → P ((drop_after q c').waiting c) (cond (eqb c c') (one_more_counted (g c)) (g c)) (cond (eqb c c') (x c ++ mk (one_more_counted (g c')) ∷ []) (x c))
  at_block mk y h = rw (drop_view q c c' low) (go (eqb c c') refl h)
    where
      go : (b : Bool) → eqb c c' ≡ b → P (drop_c (cond b (holds y) empty) (q.waiting c)) (count_c (cond b (holds y) empty) (g c)) (name_c mk (cond b (holds y) empty) (g c) (x c)) → P (cond b (drop 1 (q.waiting c)) (q.waiting c)) (cond b (one_more_counted (g c)) (g c)) (cond b (x c ++ mk (one_more_counted (g c')) ∷ []) (x c))
      go true e p = rw (← (eqb-true c c' e)) p
      go false e p = p

  pub doubt_at : (y : Cargo) → At doubtful y → P ((leaves (doubt_of c' (one_more_counted (g c')) y) q).waiting c) (counts (doubt_of c' (one_more_counted (g c')) y) g c) (names (doubt_of c' (one_more_counted (g c')) y) x c)
  doubt_at empty h = at_none doubtful h
  doubt_at (holds y) h = at_block doubtful y h

  pub confirm_at : (y : Cargo) → At confirmed y → P ((leaves (confirm_of c' (one_more_counted (g c')) y) q).waiting c) (counts (confirm_of c' (one_more_counted (g c')) y) g c) (names (confirm_of c' (one_more_counted (g c')) y) x c)
  confirm_at empty h = at_none confirmed h
  confirm_at (holds y) h = at_block confirmed y h

-- the first block leaves
books_leave : {s : List Block} {x : List Named} {out : List Block} {cnt sub : ℕ} {gone : List Gone} (g : Gone) (rest : List Block) → out ≡ block_of g ∷ rest → Books s x out cnt sub gone → Books s (x ++ name_at (length gone) g ∷ []) (drop 1 out) (one_more_counted cnt) sub (gone ++ g ∷ [])
books_leave {s} {x} {out} {cnt} {sub} {gone} g rest e b =
    let ls : length s ≡ length (blocks gone) + length out = ap length b.kept ∙ length-append (blocks gone) out in
    let lo : length out ≡ suc (length rest) = ap length e in
    let lb = blocks_length gone in
    let lt : cnt < last_number = omega (arith, b.subs, b.most, b.counted) in
    let om : one_more_counted cnt ≡ suc cnt = omega arith in
    record {
      named = ap (λ (z : List Named). z ++ name_at (length gone) g ∷ []) b.named ∙ sym (numbered_snoc 0 (length gone) gone g (omega arith));
      kept = b.kept ∙ rw (blocks_++, e, append_assoc);
      counted = om ∙ ap suc b.counted ∙ sym (length-append gone (g ∷ []) ∙ (omega arith));
      subs = b.subs;
      most = b.most;
    }

cnt_lt : {s : List Block} {x : List Named} {out : List Block} {cnt sub : ℕ} {gone : List Gone} (b : Block) (rest : List Block) → out ≡ b ∷ rest → Books s x out cnt sub gone → one_more_counted cnt ≡ suc (length gone)
cnt_lt {s} {x} {out} {cnt} {sub} {gone} y rest e b =
    let ls : length s ≡ length (blocks gone) + length out = ap length b.kept ∙ length-append (blocks gone) out in
    let lo : length out ≡ suc (length rest) = ap length e in
    let lb = blocks_length gone in
    let lt : cnt < last_number = omega (arith, b.subs, b.most, b.counted) in
    let co = b.counted in
    omega arith

pub books_doubt : {s : List Block} {x : List Named} {out : List Block} {cnt sub : ℕ} {gone : List Gone} (y : Cargo) (rest : List Block) → out ≡ block_in y ++ rest → Books s x out cnt sub gone → Books s (name_c doubtful y cnt x) (drop_c y out) (count_c y cnt) sub (gone ++ doubt_in y)
books_doubt empty rest e b = rw append-nil b
books_doubt {s} {x} {out} {cnt} {sub} {gone} (holds y) rest e b = subst (λ (z : ℕ). Books s (x ++ doubtful z ∷ []) (drop 1 out) (one_more_counted cnt) sub (gone ++ doubt_b y ∷ [])) (sym (cnt_lt y rest e b)) (books_leave (doubt_b y) rest e b)

pub books_confirmed : {s : List Block} {x : List Named} {out : List Block} {cnt sub : ℕ} {gone : List Gone} (y : Cargo) (rest : List Block) → out ≡ block_in y ++ rest → Books s x out cnt sub gone → Books s (name_c confirmed y cnt x) (drop_c y out) (count_c y cnt) sub (gone ++ sure_in y)
books_confirmed empty rest e b = rw append-nil b
books_confirmed {s} {x} {out} {cnt} {sub} {gone} (holds y) rest e b = subst (λ (z : ℕ). Books s (x ++ confirmed z ∷ []) (drop 1 out) (one_more_counted cnt) sub (gone ++ sure_b y ∷ [])) (sym (cnt_lt y rest e b)) (books_leave (sure_b y) rest e b)

-- a submission
pub books_submit : {s : List Block} {x : List Named} {out : List Block} {cnt sub : ℕ} {gone : List Gone} (b : Block) → sub < last_number → Books s x out cnt sub gone → Books (s ++ b ∷ []) x (out ++ b ∷ []) cnt (suc sub) gone
books_submit {s} {x} {out} {cnt} {sub} {gone} y lt b = record { named = b.named; kept = rw (b.kept, append_assoc); counted = b.counted; subs = ap suc b.subs ∙ sym (length-append s (y ∷ []) ∙ (omega arith)); most = lt }

-- what came
abbrev pub Got : Cargo → List Gone → List Block → Type 0
Got y g d = (base : List Block) × Kept g base × (d ≡ base ++ block_in y)

pub doubted : (y : Cargo) (g : List Gone) (base d : List Block) → Kept g base → d ≡ base ++ block_in y → Kept (g ++ doubt_in y) d
doubted empty g base d t e = rw (e, append-nil, append-nil) t
doubted (holds b) g base d t e = rw e (kept' b g base t)

pub settled_by : (y : Cargo) (g : List Gone) (base d : List Block) → Kept g base → d ≡ base ++ block_in y → Kept (g ++ sure_in y) d
settled_by empty g base d t e = rw (e, append-nil, append-nil) t
settled_by (holds b) g base d t e = rw e (came' b g base t)

pub unused : (y : Cargo) (g : List Gone) (d : List Block) → Kept g d → Kept (g ++ doubt_in y) d
unused empty g d t = rw append-nil t
unused (holds b) g d t = lost' b g d t

-- the law of one way and channel
settled_out : {gone : List Gone} {base : List Block} → Kept gone base → (s out : List Block) → s ≡ blocks gone ++ out → Settled s (numbered 0 gone) base
settled_out none' s out e = unnamed
settled_out (came' b g d t) s out e =
    let e' : s ≡ blocks g ++ b ∷ out = e ∙ rw (blocks_++, append_assoc) in
    let ln = numbered_length 0 g in
    let lb = blocks_length g in
    let ls : length s ≡ length (blocks g) + suc (length out) = ap length e' ∙ length-append (blocks g) (b ∷ out) in
    let at : get_or s (length (numbered 0 g)) (plain []) ≡ b = ap (λ (z : ℕ). get_or s z (plain [])) (ln ∙ sym lb) ∙ ap (λ (z : List Block). get_or z (length (blocks g)) (plain [])) e' ∙ at_length (blocks g) b out in
    subst₂ (λ (X : List Named) (D : List Block). Settled s X D) (ap (λ (z : ℕ). numbered 0 g ++ confirmed (suc z) ∷ []) ln ∙ sym (numbered_snoc 0 (length g) g (sure_b b) (omega arith))) (ap (λ (z : Block). d ++ z ∷ []) at) (came (numbered 0 g) d (omega arith) (settled_out t s (b ∷ out) e'))
settled_out (kept' b g d t) s out e =
    let e' : s ≡ blocks g ++ b ∷ out = e ∙ rw (blocks_++, append_assoc) in
    let ln = numbered_length 0 g in
    let lb = blocks_length g in
    let ls : length s ≡ length (blocks g) + suc (length out) = ap length e' ∙ length-append (blocks g) (b ∷ out) in
    let at : get_or s (length (numbered 0 g)) (plain []) ≡ b = ap (λ (z : ℕ). get_or s z (plain [])) (ln ∙ sym lb) ∙ ap (λ (z : List Block). get_or z (length (blocks g)) (plain [])) e' ∙ at_length (blocks g) b out in
    subst₂ (λ (X : List Named) (D : List Block). Settled s X D) (ap (λ (z : ℕ). numbered 0 g ++ doubtful (suc z) ∷ []) ln ∙ sym (numbered_snoc 0 (length g) g (doubt_b b) (omega arith))) (ap (λ (z : Block). d ++ z ∷ []) at) (kept (numbered 0 g) d (omega arith) (settled_out t s (b ∷ out) e'))
settled_out (lost' b g d t) s out e =
    let e' : s ≡ blocks g ++ b ∷ out = e ∙ rw (blocks_++, append_assoc) in
    let ln = numbered_length 0 g in
    let lb = blocks_length g in
    let ls : length s ≡ length (blocks g) + suc (length out) = ap length e' ∙ length-append (blocks g) (b ∷ out) in
    subst (λ (X : List Named). Settled s X d) (ap (λ (z : ℕ). numbered 0 g ++ doubtful (suc z) ∷ []) ln ∙ sym (numbered_snoc 0 (length g) g (doubt_b b) (omega arith))) (lost (numbered 0 g) d (omega arith) (settled_out t s (b ∷ out) e'))

-- until a doubt
AllSure : List Gone → Type 0
AllSure [] = Unit {0}
AllSure (sure_b b ∷ g) = AllSure g
AllSure (doubt_b b ∷ g) = ⊥

all_confirmed : (k : ℕ) (g : List Gone) → NoDoubt (numbered k g) → AllSure g
unfolding AllSure
all_confirmed k [] h = tt
all_confirmed k (sure_b b ∷ g) h = all_confirmed (suc k) g h
all_confirmed k (doubt_b b ∷ g) h = h

all_confirmed_++ : (g h : List Gone) → AllSure (g ++ h) → AllSure g × AllSure h
unfolding AllSure
all_confirmed_++ [] h a = (tt, a)
all_confirmed_++ (sure_b b ∷ g) h a = all_confirmed_++ g h a
all_confirmed_++ (doubt_b b ∷ g) h a = absurd a

kept_all : {gone : List Gone} {base : List Block} → Kept gone base → AllSure gone → base ≡ blocks gone
unfolding AllSure
kept_all none' a = refl
kept_all (came' b g d t) a = ap (λ (z : List Block). z ++ b ∷ []) (kept_all t (all_confirmed_++ g (sure_b b ∷ []) a).0) ∙ sym (blocks_++ g (sure_b b ∷ []))
kept_all (kept' b g d t) a = absurd (all_confirmed_++ g (doubt_b b ∷ []) a).1
kept_all (lost' b g d t) a = absurd (all_confirmed_++ g (doubt_b b ∷ []) a).1

first_rest : {out extra : List Block} → AtMostFirst out extra → (rest : List Block) × (out ≡ extra ++ rest)
first_rest (none_of {blocks = q}) = (q, refl)
first_rest (the_first {blocks = q}) = (q, refl)

pub at_most : (y : Cargo) (rest : List Block) → AtMostFirst (block_in y ++ rest) (block_in y)
at_most empty rest = none_of
at_most (holds b) rest = the_first

in_order : (k : ℕ) (g : List Gone) → numbers (numbered k g) ≡ count_from (suc k) (length g)
in_order k [] = refl
in_order k (sure_b b ∷ g) = ap (λ (r : List ℕ). suc k ∷ r) (in_order (suc k) g)
in_order k (doubt_b b ∷ g) = ap (λ (r : List ℕ). suc k ∷ r) (in_order (suc k) g)

pub law_of : (y : Way) (out inn : Meaning) (c : ℕ) {cnt sub : ℕ} (gone : List Gone) (base extra : List Block) → Books (y.submitted c) (y.named c) (out.waiting c) cnt sub gone → Kept gone base → AtMostFirst (out.waiting c) extra → delivered y inn c ≡ base ++ extra → Delivers y out inn c
law_of y out inn c gone base extra b k f e =
    let ln = numbered_length 0 gone in
    let lb = blocks_length gone in
    let lx : length (y.named c) ≡ length (blocks gone) = ap length b.named ∙ ln ∙ sym lb in
    let ls : length (y.submitted c) ≡ length (blocks gone) + length (out.waiting c) = ap length b.kept ∙ length-append (blocks gone) (out.waiting c) in
    let r = first_rest f in
    record {
      sure = base;
      extra = extra;
      settled = subst (λ (X : List Named). Settled (y.submitted c) X base) (sym b.named) (settled_out k (y.submitted c) (out.waiting c) b.kept);
      first = f;
      exact = e;
      named_in_order = ap numbers b.named ∙ in_order 0 gone ∙ ap (count_from 1) (sym (ap length b.named ∙ ln));
      within = omega arith;
      waiting = sym (ap (λ (z : ℕ). drop z (y.submitted c)) lx ∙ ap (λ (z : List Block). drop (length (blocks gone)) z) b.kept ∙ drop_length (blocks gone) (out.waiting c));
      whole = λ nd. let a : base ≡ blocks gone = kept_all k (all_confirmed 0 gone (subst NoDoubt b.named nd)) in (r.0, b.kept ∙ ap (λ (z : List Block). blocks gone ++ z) r.1 ∙ sym (append_assoc (blocks gone) extra r.0) ∙ ap (λ (z : List Block). (z ++ extra) ++ r.0) (sym a) ∙ ap (λ (z : List Block). z ++ r.0) (sym e));
    }
