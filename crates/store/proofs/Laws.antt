-- The laws of every list of calls: each call moves blocks from the front of what waits to the end of what was dropped,
-- or from a granted put to the end of what waits; and it touches no channel but its own.
use Rattle.std.proofs.Common.{◌≡◌, ℕ, ◌≤◌, Bool, true, false, cond, ◌||◌, eqb, ltb, List, [], ◌∷◌, ◌++◌, length, drop, Ok, Err, Result, sym, refl, ap, ◌∙◌, arith}
use Rattle.std.specs.List.{AllByRecursion}
use Rattle.std.proofs.lemmas.Bool.{ltb-false, eqb-false, eqb-true}
use Rattle.std.proofs.lemmas.List.{append_assoc, append-nil}
use Rattle.poll.specs.Channel.{last_channel, channels}
use Rattle.frame.specs.Frame.{longest_block}
use Rattle.store.specs.declared.refusal.Refusal.{Refusal}
use Rattle.store.specs.declared.refusal.Refusal.TheVariants.{BadChannel, BadLength, Full, NoneWaiting}
use Rattle.store.specs.Meaning.{Block, Meaning, none, empty, replaced, total}
use Rattle.store.specs.Rules.{if_granted, put_answer, joined, first_answer, granted, drop_answer, shortened}
use Rattle.store.specs.Calls.{Call, put, copy_first, drop_first, ask_count, ask_total, ask_limit, store_after, put_by, dropped_by, shown_by, History, begun, act, after, Kept, Elsewhere, StoreLaws}
use Rattle.store.proofs.Totals.{replaced_apart, below_none, total_joined, total_shortened}

-- what waited and what was put is what was dropped and what waits, on each channel; and the limit holds on
record Fine (m : Meaning) (new gone : ℕ → List Block) (m' : Meaning) : Type 0 where
  balance : (k : ℕ) → m.waiting k ++ new k ≡ gone k ++ m'.waiting k
  room : total m ≤ m.limit → total m' ≤ m.limit
  limit : m'.limit ≡ m.limit

same : (m : Meaning) → Fine m none none m
same m = record { balance = λ k. append-nil (m.waiting k); room = λ r. r; limit = refl }

-- a granted put
join_at :
    (k c : ℕ) (w : ℕ → List Block) (b : Block) (s : Bool) → eqb k c ≡ s → w k ++ cond s (b ∷ []) [] ≡ cond s (w c ++ b ∷ []) (w k)
join_at k c w b true e = ap (λ (j : ℕ). w j ++ b ∷ []) (eqb-true k c e)
join_at k c w b false e = append-nil (w k)

put_fine : (m : Meaning) (c : ℕ) (b : Block) → c ≤ last_channel → (total m ≡ m.limit → ⊥) → Fine m (replaced none c (b ∷ [])) none (joined m c b)
put_fine m c b low ne =
    let l = total_joined m c b low in
    record { balance = λ k. join_at k c m.waiting b (eqb k c) refl; room = λ r. omega arith; limit = refl }

-- the answers of put, one by one
abbrev AtPut : Meaning → ℕ → Block → Result (Unit {0}) Refusal → Type 0
AtPut m c b r = Fine m (if_granted r (replaced none c (b ∷ [])) none) none (if_granted r (joined m c b) m)

put_full : (m : Meaning) (c : ℕ) (b : Block) (t : Bool) → eqb (total m) m.limit ≡ t → c ≤ last_channel → AtPut m c b (cond t (Err Full) (Ok tt))
put_full m c b true e low = same m
put_full m c b false e low = put_fine m c b low (eqb-false _ _ e)

put_long : (m : Meaning) (c : ℕ) (b : Block) (t : Bool) → c ≤ last_channel → AtPut m c b (cond t (Err BadLength) (cond (eqb (total m) m.limit) (Err Full) (Ok tt)))
put_long m c b true low = same m
put_long m c b false low = put_full m c b (eqb (total m) m.limit) refl low

put_high :
    (m : Meaning) (c : ℕ) (b : Block) (t : Bool)
    → ltb last_channel c ≡ t
    → AtPut m c b (cond t (Err BadChannel) (cond (eqb (length b.bytes) 0 || ltb longest_block (length b.bytes)) (Err BadLength) (cond (eqb (total m) m.limit) (Err Full) (Ok tt))))
put_high m c b true e = same m
put_high m c b false e = put_long m c b (eqb (length b.bytes) 0 || ltb longest_block (length b.bytes)) (ltb-false _ _ e)

-- what drop-first finds
abbrev AtDrop : Meaning → ℕ → Result Block Refusal → Type 0
AtDrop m c r = Fine m none (replaced none c (shown_by r)) (if_granted (granted r) (shortened m c) m)

stay_at : (k c : ℕ) (w : ℕ → List Block) (s : Bool) → w k ++ [] ≡ cond s [] [] ++ w k
stay_at k c w true = append-nil (w k)
stay_at k c w false = append-nil (w k)

drop_refused : (m : Meaning) (c : ℕ) (e : Refusal) → AtDrop m c (Err e)
drop_refused m c e = record { balance = λ k. stay_at k c m.waiting (eqb k c); room = λ r. r; limit = refl }

leave_at :
    (k c : ℕ) (w : ℕ → List Block) (b : Block) (bs : List Block) (s : Bool)
    → eqb k c ≡ s
    → w c ≡ b ∷ bs
    → w k ++ [] ≡ cond s (b ∷ []) [] ++ cond s (drop 1 (w c)) (w k)
leave_at k c w b bs true e f =
    append-nil (w k) ∙ ap w (eqb-true k c e) ∙ f ∙ ap (λ (v : List Block). b ∷ drop 1 v) (sym f)
leave_at k c w b bs false e f = append-nil (w k)

drop_first_step : (m : Meaning) (c : ℕ) (bs : List Block) → m.waiting c ≡ bs → c ≤ last_channel → AtDrop m c (first_answer bs)
drop_first_step m c [] e low = drop_refused m c NoneWaiting
drop_first_step m c (b ∷ bs) e low =
    let l = ap length e in
    let s = total_shortened m c low (omega arith) in
    record { balance = λ k. leave_at k c m.waiting b bs (eqb k c) refl e; room = λ r. omega arith; limit = refl }

drop_high : (m : Meaning) (c : ℕ) (t : Bool) → ltb last_channel c ≡ t → AtDrop m c (cond t (Err BadChannel) (first_answer (m.waiting c)))
drop_high m c true e = drop_refused m c BadChannel
drop_high m c false e = drop_first_step m c (m.waiting c) refl (ltb-false _ _ e)

fine : (k : Call) (m : Meaning) → Fine m (put_by k m) (dropped_by k m) (store_after k m)
fine (put c b) m = put_high m c b (ltb last_channel c) refl
fine (copy_first c n) m = same m
fine (drop_first c) m = drop_high m c (ltb last_channel c) refl
fine (ask_count c) m = same m
fine ask_total m = same m
fine ask_limit m = same m

kept_act : (n : ℕ) (k : Call) (h : History) → Kept n h → Kept n (act k h)
kept_act n k h kept =
    let f = fine k h.store in
    let new : ℕ → List Block = put_by k h.store in
    let gone : ℕ → List Block = dropped_by k h.store in
    let w : ℕ → List Block = h.store.waiting in
    let w' : ℕ → List Block = (store_after k h.store).waiting in
    let d : ℕ → List Block = h.dropped in
    let r = kept.room in
    let l = kept.same_limit in
    let q = f.room (omega arith) in
    record {
      order = λ c.
          ap (λ (v : List Block). v ++ new c) (kept.order c) ∙ append_assoc (d c) (w c) (new c)
          ∙ ap (λ (v : List Block). d c ++ v) (f.balance c)
          ∙ sym (append_assoc (d c) (gone c) (w' c));
      room = omega arith;
      same_limit = f.limit ∙ l;
    }

kept_after : (n : ℕ) (ks : List Call) (h : History) → Kept n h → Kept n (after ks h)
kept_after n [] h kept = kept
kept_after n (k ∷ ks) h kept = kept_after n ks (act k h) (kept_act n k h kept)

keeps : (n : ℕ) (ks : List Call) → Kept n (after ks (begun (empty n)))
keeps n ks =
    let z = below_none channels in
    kept_after n ks (begun (empty n)) (record { order = λ c. refl; room = omega arith; same_limit = refl })

pub keeps_from : (m : Meaning) (ks : List Call) (n : ℕ) → m ≡ empty n → Kept n (after ks (begun m))
keeps_from m ks n e = rw e (keeps n ks)

-- a changed channel is not the other one
apart_change :
    {X E : Type 0} (r : Result X E) (m : Meaning) (c k : ℕ) (blocks : List Block)
    → (c ≡ k → ⊥)
    → (if_granted r (record { waiting = replaced m.waiting k blocks; limit = m.limit }) m).waiting c ≡ m.waiting c
apart_change (Ok x) m c k blocks ne = replaced_apart m.waiting k blocks c ne
apart_change (Err e) m c k blocks ne = refl

apart_one : (c : ℕ) (k : Call) (m : Meaning) → Elsewhere c k → (store_after k m).waiting c ≡ m.waiting c
apart_one c (put k b) m ne = apart_change (put_answer m k b) m c k (m.waiting k ++ b ∷ []) ne
apart_one c (copy_first k n) m u = refl
apart_one c (drop_first k) m ne = apart_change (drop_answer m k) m c k (drop 1 (m.waiting k)) ne
apart_one c (ask_count k) m u = refl
apart_one c ask_total m u = refl
apart_one c ask_limit m u = refl

apart : (c : ℕ) (h : History) (ks : List Call) → AllByRecursion (Elsewhere c) ks → (after ks h).store.waiting c ≡ h.store.waiting c
apart c h [] u = refl
apart c h (k ∷ ks) u = apart c (act k h) ks u.1 ∙ apart_one c k h.store u.0

pub store_laws : StoreLaws
store_laws = record { keeps = keeps; apart = λ c m ks u. apart c (begun m) ks u }

-- one call more at the end of a list
pub after_more : (ks : List Call) (k : Call) (h : History) → after (ks ++ k ∷ []) h ≡ act k (after ks h)
after_more [] k h = refl
after_more (j ∷ ks) k h = after_more ks k (act j h)
