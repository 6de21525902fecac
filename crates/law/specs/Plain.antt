-- The law in the words of its reader, one way and one channel.
use Rattle.std.specs.Prelude.{◌≡◌, ℕ, suc, pred, ◌<◌, ◌≤◌, ◌⊎◌, List, [], map, length, drop}
use Rattle.std.specs.Prelude.{Contains, slice_index_or}
use Rattle.std.specs.List.Sorted.{IsStrictlyIncreasing}
use Rattle.poll.specs.Channel.{last_channel}
use Rattle.store.specs.Meaning.{Block, Meaning, plain}
use Rattle.law.specs.Runs.{confirmed, doubtful, Way, World, Limits, Run}
use Rattle.law.specs.Law.{numbers, count_from, delivered}

-- the block of a number: they begin with 1
abbrev pub block_at : List Block → ℕ → Block
block_at blocks k = slice_index_or blocks (pred k) (plain [])

abbrev pub IsConfirmed : Way → ℕ → ℕ → Type 0
IsConfirmed y c k = Contains (y.named c) (confirmed k)

abbrev pub IsDoubtful : Way → ℕ → ℕ → Type 0
IsDoubtful y c k = Contains (y.named c) (doubtful k)

-- behind all that are named
abbrev pub IsWaiting : Way → ℕ → ℕ → Type 0
IsWaiting y c k = length (y.named c) < k

abbrev pub IsFirstWaiting : Way → ℕ → ℕ → Type 0
IsFirstWaiting y c k = (k ≡ suc (length (y.named c))) × (k ≤ length (y.submitted c))

-- just one of three
abbrev pub OneOf : Type 0 → Type 0 → Type 0 → Type 0
OneOf A B C =
    (A × (B → ⊥) × (C → ⊥)) ⊎ (B × (A → ⊥) × (C → ⊥)) ⊎ (C × (A → ⊥) × (B → ⊥))

-- There is an ascending list of numbers, each once, such that delivered are the submissions of
-- these numbers, in this order. Every confirmed number is in it; every number in it is confirmed,
-- doubtful, or the first that waits.
-- in_order, within: the numbers named are 1, 2, 3 and so on, each once, and no number is named
-- that was not submitted. one_of_three: each number from 1 to the count of submissions is just
-- one of confirmed, doubtful and waiting. waiting: what waits is what lies in the sending store.
pub record InWords (y : Way) (out inn : Meaning) (c : ℕ) : Type 0 where
  pub come : List ℕ
  pub ascending : IsStrictlyIncreasing come
  pub delivered_are : delivered y inn c ≡ map (block_at (y.submitted c)) come
  pub confirmed_came : (k : ℕ) → IsConfirmed y c k → Contains come k
  pub only : (k : ℕ) → Contains come k
      → IsConfirmed y c k ⊎ IsDoubtful y c k ⊎ IsFirstWaiting y c k
  pub in_order : numbers (y.named c) ≡ count_from 1 (length (y.named c))
  pub within : length (y.named c) ≤ length (y.submitted c)
  pub one_of_three : (k : ℕ) → 1 ≤ k → k ≤ length (y.submitted c)
      → OneOf (IsConfirmed y c k) (IsDoubtful y c k) (IsWaiting y c k)
  pub waiting : out.waiting c ≡ drop (length (y.named c)) (y.submitted c)

pub record LawInWords : Type 0 where
  pub to_tnc : (setting : ℕ) (l : Limits) (w : World) → Run setting l w
      → (c : ℕ) → c ≤ last_channel → InWords w.to_tnc w.host_out w.tnc_in c
  pub to_host : (setting : ℕ) (l : Limits) (w : World) → Run setting l w
      → (c : ℕ) → c ≤ last_channel → InWords w.to_host w.tnc_out w.host_in c
