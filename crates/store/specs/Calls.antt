-- Lists of calls on a store, and the laws of all of them.
use Rattle.std.specs.Prelude.{◌≡◌, ℕ, ◌≤◌, List, [], ◌∷◌, ◌++◌, Ok, Err, Result}
use Rattle.std.specs.List.{AllByRecursion}
use Rattle.store.specs.declared.refusal.Refusal.{Refusal}
use Rattle.store.specs.Meaning.{Block, Meaning, none, empty, replaced, total}
use Rattle.store.specs.Rules.{if_granted, put_answer, put_after, first_waiting, drop_after}

-- a call with its arguments; copy-first by channel and length of the buffer
pub data Call : Type 0 where
  put : ℕ → Block → Call
  copy_first : ℕ → ℕ → Call
  drop_first : ℕ → Call
  ask_count : ℕ → Call
  ask_total : Call
  ask_limit : Call

-- what the store means after a call
abbrev pub store_after : Call → Meaning → Meaning
store_after (put c b) m = put_after m c b
store_after (copy_first c n) m = m
store_after (drop_first c) m = drop_after m c
store_after (ask_count c) m = m
store_after ask_total m = m
store_after ask_limit m = m

-- what the call put and was granted, by channel
abbrev pub put_by : Call → Meaning → ℕ → List Block
put_by (put c b) m = if_granted (put_answer m c b) (replaced none c (b ∷ [])) none
put_by (copy_first c n) m = none
put_by (drop_first c) m = none
put_by (ask_count c) m = none
put_by ask_total m = none
put_by ask_limit m = none

-- what the call dropped, by channel: the block that copy-first would have shown
abbrev pub shown_by : Result Block Refusal → List Block
shown_by (Ok b) = b ∷ []
shown_by (Err e) = []

abbrev pub dropped_by : Call → Meaning → ℕ → List Block
dropped_by (put c b) m = none
dropped_by (copy_first c n) m = none
dropped_by (drop_first c) m = replaced none c (shown_by (first_waiting m c))
dropped_by (ask_count c) m = none
dropped_by ask_total m = none
dropped_by ask_limit m = none

-- a store after some calls: what it means, and for each channel its granted puts and its drops, in order
pub record History : Type 0 where
  pub store : Meaning
  pub given : ℕ → List Block
  pub dropped : ℕ → List Block

abbrev pub begun : Meaning → History
begun m = record { store = m; given = none; dropped = none }

abbrev pub act : Call → History → History
act k h = record {
  store = store_after k h.store;
  given = λ c. h.given c ++ put_by k h.store c;
  dropped = λ c. h.dropped c ++ dropped_by k h.store c;
}

abbrev pub after : List Call → History → History
after [] h = h
after (k ∷ ks) h = after ks (act k h)

-- on each channel, what was put and granted is what was dropped, in order, followed by what waits;
-- no more wait than the limit, which stays
pub record Kept (limit : ℕ) (h : History) : Type 0 where
  pub order : (c : ℕ) → h.given c ≡ h.dropped c ++ h.store.waiting c
  pub room : total h.store ≤ limit
  pub same_limit : h.store.limit ≡ limit

-- a call that can't change channel c: no put and no drop-first on it
abbrev pub Elsewhere : ℕ → Call → Type 0
Elsewhere c (put k b) = c ≡ k → ⊥
Elsewhere c (copy_first k n) = Unit {0}
Elsewhere c (drop_first k) = c ≡ k → ⊥
Elsewhere c (ask_count k) = Unit {0}
Elsewhere c ask_total = Unit {0}
Elsewhere c ask_limit = Unit {0}

-- the laws: of every list of calls on an empty store, and of calls on one channel and the blocks of another
pub record StoreLaws : Type 0 where
  pub keeps : (limit : ℕ) (ks : List Call) → Kept limit (after ks (begun (empty limit)))
  pub apart : (c : ℕ) (m : Meaning) (ks : List Call) → AllByRecursion (Elsewhere c) ks → (after ks (begun m)).store.waiting c ≡ m.waiting c
