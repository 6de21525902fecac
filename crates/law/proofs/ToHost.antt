-- Blocks from the TNC to the host, on channel c: what each call does to what is gone and what came.
use Rattle.std.proofs.Common.{◌≡◌, ℕ, suc, ◌<◌, ◌≤◌, Bool, true, false, cond, eqb, ◌⊎◌, List, [], ◌∷◌, ◌++◌, sym, refl, ap, ◌∙◌, inl, inr, append_assoc, append-nil, arith, eqb-true}
use native.Mathlib.Decide.{ℕ_discrete}
use Rattle.frame.specs.Frame.{general}
use Rattle.store.specs.Meaning.{Block, Meaning}
use Rattle.ends.specs.Limits.{last_number}
use Rattle.ends.specs.Frames.{Load, poll, information, command, Request, success, message, failure, Answer, Cargo, empty, cargo_in}
use Rattle.ends.specs.Host.{State, fresh, opening, idle, on_its_way, down}
use Rattle.ends.specs.Tnc.{offer, reply_to, list_for, no_channel, no_place}
use Rattle.law.specs.Runs.{Named, confirmed, doubtful}
use Rattle.law.proofs.Sync.{Sync, Shape, never, book', old, new}
use Rattle.law.proofs.Books.{Gone, Kept, none', block_in, sure_in, doubt_in, carried, carried_empty, Books, drop_c, count_c, name_c, books_doubt, books_confirmed, books_submit, Got, doubted, settled_by, unused}

abbrev pub offers : ℕ → Answer → Cargo
offers c a = carried c a.channel (cargo_in a.reply)

abbrev pub IsIdle : State → Type 0
IsIdle fresh = ⊥
IsIdle (opening r) = ⊥
IsIdle idle = Unit {0}
IsIdle (on_its_way f r) = ⊥
IsIdle down = ⊥

abbrev pub IsAway : State → Type 0
IsAway fresh = ⊥
IsAway (opening r) = ⊥
IsAway idle = ⊥
IsAway (on_its_way f r) = Unit {0}
IsAway down = ⊥

-- y: the block in the held answer, for channel c
pub record ToHost (c : ℕ) (st : State) (n m : ℕ) (book : ℕ → Request) (y : Cargo) (s : List Block) (x : List Named) (out : List Block) (cnt sub : ℕ) (d : List Block) : Type 0 where
  pub gone : List Gone
  pub books : Books s x out cnt sub gone
  pub offered : (rest : List Block) × (out ≡ block_in y ++ rest)
  pub unsure : Kept gone d ⊎ Got y gone d
  pub passed : suc m ≤ n → (book (suc m)).reset ≡ false → Got y gone d
  pub at_idle : IsIdle st → Got y gone d
  pub at_away : IsAway st → m ≡ n → Kept gone d

pub dn_begin : (c : ℕ) (book : ℕ → Request) (y : Cargo) → y ≡ empty → ToHost c fresh 0 0 book y [] [] [] 0 0 []
dn_begin c book y e = record { gone = []; books = record { named = refl; kept = refl; counted = refl; subs = refl; most = omega arith }; offered = ([], rw e); unsure = inl none'; passed = λ a. absurd (omega arith); at_idle = λ a. absurd a; at_away = λ a. absurd a }

pub got_empty : (y : Cargo) (g : List Gone) (d : List Block) → y ≡ empty → Kept g d → Got y g d
got_empty y g d e k = (d, k, rw (e, append-nil))

kept_of : (y : Cargo) (d : List Block) (g : List Gone) → y ≡ empty → Kept g d ⊎ Got y g d → Kept g d
kept_of y d g e (inl k) = k
kept_of y d g e (inr t) = let h : d ≡ t.0 = t.2 ∙ ap (λ (z : Cargo). t.0 ++ block_in z) e ∙ append-nil t.0 in rw h t.1

doubt_all : (y : Cargo) (d : List Block) (g : List Gone) → Kept g d ⊎ Got y g d → Kept (g ++ doubt_in y) d
doubt_all y d g (inl k) = unused y g d k
doubt_all y d g (inr t) = doubted y g t.0 d t.1 t.2

not_idle : (st : State) (n m j : ℕ) (book : ℕ → Request) (last pend : Bool) → suc m ≤ n → Shape st last pend n m j book → IsIdle st → ⊥
not_idle fresh n m j book last pend lt sh i = i
not_idle (opening r) n m j book last pend lt sh i = i
not_idle idle n m j book last pend lt sh i = omega (arith, sh.0)
not_idle (on_its_way f r) n m j book last pend lt sh i = i
not_idle down n m j book last pend lt sh i = i

module _ (c : ℕ) {n m : ℕ} {book : ℕ → Request} {y : Cargo} {s : List Block} {x : List Named} {out : List Block} {cnt sub : ℕ} {d : List Block} where
  pub dn_submit : {st : State} (b : Block) → sub < last_number → ToHost c st n m book y s x out cnt sub d → ToHost c st n m book y (s ++ b ∷ []) x (out ++ b ∷ []) cnt (suc sub) d
  dn_submit b lt u = record { gone = u.gone; books = books_submit b lt u.books; offered = (u.offered.0 ++ b ∷ [], rw (u.offered.1, append_assoc)); unsure = u.unsure; passed = u.passed; at_idle = u.at_idle; at_away = u.at_away }

  -- the host goes to a state that is neither idle nor on its way
  pub dn_fall : {st : State} → ToHost c st n m book y s x out cnt sub d → ToHost c down n m book y s x out cnt sub d
  dn_fall u = record { gone = u.gone; books = u.books; offered = u.offered; unsure = u.unsure; passed = u.passed; at_idle = λ a. absurd a; at_away = λ a. absurd a }

  pub dn_open_old : {st : State} (r : ℕ) → ToHost c st n m book y s x out cnt sub d → ToHost c (opening r) n m book y s x out cnt sub d
  dn_open_old r u = record { gone = u.gone; books = u.books; offered = u.offered; unsure = u.unsure; passed = u.passed; at_idle = λ a. absurd a; at_away = λ a. absurd a }

  pub dn_again : (f : Request) (r r' : ℕ) → ToHost c (on_its_way f r) n m book y s x out cnt sub d → ToHost c (on_its_way f r') n m book y s x out cnt sub d
  dn_again f r r' u = record { gone = u.gone; books = u.books; offered = u.offered; unsure = u.unsure; passed = u.passed; at_idle = λ a. absurd a; at_away = u.at_away }

  pub dn_open_new : {st : State} (f : Request) (r : ℕ) → m ≤ n → f.reset ≡ true → ToHost c st n m book y s x out cnt sub d → ToHost c (opening r) (suc n) m (book' book n f) y s x out cnt sub d
  dn_open_new f r mn fl u = record {
    gone = u.gone;
    books = u.books;
    offered = u.offered;
    unsure = u.unsure;
    passed = λ a e. elim (ℕ_discrete m n) [ yes q ↦ absurd (never (sym e ∙ ap (λ (z : ℕ). (book' book n f (suc z)).reset) q ∙ ap (λ (z : Request). z.reset) (new book n f) ∙ fl)) | no q ↦ u.passed (omega arith) (rw (old book n f (suc m) (omega arith)) at e) ];
    at_idle = λ a. absurd a;
    at_away = λ a. absurd a;
  }

  pub dn_step : (f : Request) → m ≡ n → ToHost c idle n m book y s x out cnt sub d → ToHost c (on_its_way f 0) (suc n) m (book' book n f) y s x out cnt sub d
  dn_step f mn u = record { gone = u.gone; books = u.books; offered = u.offered; unsure = u.unsure; passed = λ a e. u.at_idle tt; at_idle = λ a. absurd a; at_away = λ a e. absurd (omega arith) }

  -- the link opens: the answer to a reset has no block
  pub dn_opened : {st : State} → y ≡ empty → m ≡ n → ToHost c st n m book y s x out cnt sub d → ToHost c idle n m book y s x out cnt sub d
  dn_opened e mn u = record { gone = u.gone; books = u.books; offered = u.offered; unsure = u.unsure; passed = λ a. absurd (omega arith); at_idle = λ a. got_empty y u.gone d e (kept_of y d u.gone e u.unsure); at_away = λ a. absurd a }

  -- the host takes the held answer
  pub dn_taken : (f : Request) (r : ℕ) (d' : List Block) → m ≡ n → d' ≡ d ++ block_in y → ToHost c (on_its_way f r) n m book y s x out cnt sub d → ToHost c idle n m book y s x out cnt sub d'
  dn_taken f r d' mn e u = record { gone = u.gone; books = u.books; offered = u.offered; unsure = inr (d, u.at_away tt mn, e); passed = λ a. absurd (omega arith); at_idle = λ a. (d, u.at_away tt mn, e); at_away = λ a. absurd a }

  -- the TNC hears a reset: the held block is doubtful
  pub dn_resets : (st : State) (k : ℕ) (y' : Cargo) → y' ≡ empty → ToHost c st n m book y s x out cnt sub d → ToHost c st n k book y' s (name_c doubtful y cnt x) (drop_c y out) (count_c y cnt) sub d
  dn_resets st k y' e u =
      let k' = doubt_all y d u.gone u.unsure in
      record { gone = u.gone ++ doubt_in y; books = books_doubt y u.offered.0 u.offered.1 u.books; offered = (drop_c y out, rw e); unsure = inl k'; passed = λ a b. got_empty y' _ d e k'; at_idle = λ a. got_empty y' _ d e k'; at_away = λ a b. k' }

  -- the TNC accepts: the held block is confirmed
  pub dn_accepts : {j : ℕ} {pend generation last ready tlast : Bool} {held : Answer} {up : List Request} {up_at : ℕ} {dn : List Answer} {dn_at : ℕ} (st : State) (y' : Cargo) → Sync n m j book pend st generation last ready tlast held up up_at dn dn_at → suc m ≤ n → (book (suc m)).reset ≡ false → (rest : List Block) × (drop_c y out ≡ block_in y' ++ rest) → ToHost c st n m book y s x out cnt sub d → ToHost c st n (suc m) book y' s (name_c confirmed y cnt x) (drop_c y out) (count_c y cnt) sub d
  dn_accepts {j} {pend} {generation} {last} st y' z lt fl o u =
      let t = u.passed lt fl in
      let k' = settled_by y u.gone t.0 d t.1 t.2 in
      record { gone = u.gone ++ sure_in y; books = books_confirmed y u.offered.0 u.offered.1 u.books; offered = o; unsure = inl k'; passed = λ a b. absurd (omega (arith, z.one (suc (suc m)) (omega arith) a b)); at_idle = λ a. absurd (not_idle st n m j book last pend lt z.shape a); at_away = λ a b. k' }

-- what a reply offers stands first in its store
offer_first : (c c' : ℕ) (q : ℕ → List Block) → (rest : List Block) × (q c ≡ block_in (carried c c' (cargo_in (offer (q c')))) ++ rest)
offer_first c c' q = go (eqb c c') refl
  where
    same : (l : List Block) → (rest : List Block) × (l ≡ block_in (cargo_in (offer l)) ++ rest)
    same [] = ([], refl)
    same (b ∷ l) = (l, refl)

    go : (z : Bool) → eqb c c' ≡ z → (rest : List Block) × (q c ≡ block_in (cond z (cargo_in (offer (q c'))) empty) ++ rest)
    go true e = rw (eqb-true c c' e) (same (q c'))
    go false e = (q c, refl)

none_first : (c c' : ℕ) (q : ℕ → List Block) → (rest : List Block) × (q c ≡ block_in (carried c c' empty) ++ rest)
none_first c c' q = (q c, rw (carried_empty c c' empty refl))

pub reply_first : (c : ℕ) (l : Load) (c' : ℕ) (place : Bool) (m : Meaning) → (rest : List Block) × (m.waiting c ≡ block_in (carried c c' (cargo_in (reply_to l c' place m))) ++ rest)
reply_first c poll c' place m = go (eqb c' general)
  where
    go : (z : Bool) → (rest : List Block) × (m.waiting c ≡ block_in (carried c c' (cargo_in (cond z (message (list_for m)) (offer (m.waiting c'))))) ++ rest)
    go true = none_first c c' m.waiting
    go false = offer_first c c' m.waiting
reply_first c (information b) c' place m = go (eqb c' general) place
  where
    go : (z p : Bool) → (rest : List Block) × (m.waiting c ≡ block_in (carried c c' (cargo_in (cond z (failure no_channel) (cond p success (failure no_place))))) ++ rest)
    go true p = none_first c c' m.waiting
    go false true = none_first c c' m.waiting
    go false false = none_first c c' m.waiting
reply_first c (command s) c' place m = none_first c c' m.waiting
