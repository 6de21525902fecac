-- What came of the blocks that were expected. Blocks are compared byte for byte.
use Rattle.std.specs.Prelude.{◌≡◌, ℕ, ◌+◌, ◌==◌, ◌&&◌, Bool, not, nat_lt, nat_le, List, [], length}
use Rattle.std.specs.Prelude.{take, slice_index_or, count_by, bytes_eq}
use Rattle.std.specs.List.{range_with_len}
use Rattle.order.specs.declared.comparison.Comparison.{Comparison}

-- how many of the blocks have these bytes
abbrev pub copies : List ℕ → List (List ℕ) → ℕ
copies block blocks = count_by (bytes_eq block) blocks

abbrev pub block_at : List (List ℕ) → ℕ → List ℕ
block_at blocks k = slice_index_or blocks k []

-- block number k is one copy more than the others have
abbrev pub is_surplus : List (List ℕ) → List (List ℕ) → ℕ → Bool
is_surplus blocks others k =
    let b = block_at blocks k in nat_lt (copies b others) (copies b (take (k + 1) blocks))

-- expected block number k did not come: with it, more copies were expected than came
abbrev pub is_lost : List (List ℕ) → List (List ℕ) → ℕ → Bool
is_lost expected collected k = is_surplus expected collected k

-- expected block number k came, and no more often than it was expected
abbrev pub is_once : List (List ℕ) → List (List ℕ) → ℕ → Bool
is_once expected collected k = let b = block_at expected k in
    not (is_lost expected collected k) && nat_le (copies b collected) (copies b expected)

-- a collected block was not expected
abbrev pub is_strange : List (List ℕ) → List ℕ → Bool
is_strange expected b = copies b expected == 0

-- collected block number k was expected, but with it more copies came than were expected
abbrev pub is_doubled : List (List ℕ) → List (List ℕ) → ℕ → Bool
is_doubled expected collected k =
    not (is_strange expected (block_at collected k)) && is_surplus collected expected k

-- how many blocks are such, by their numbers from 0
abbrev pub number_of : (ℕ → Bool) → List (List ℕ) → ℕ
number_of p blocks = count_by p (range_with_len 0 (length blocks))

abbrev pub comparison : List (List ℕ) → List (List ℕ) → Comparison
comparison expected collected =
    record {
      once = number_of (is_once expected collected) expected;
      lost = number_of (is_lost expected collected) expected;
      doubled = number_of (is_doubled expected collected) collected;
      strange = count_by (is_strange expected) collected;
    }

-- nothing was lost, doubled or strange
abbrev pub is_whole : Comparison → Bool
is_whole c = (c.lost == 0) && ((c.doubled == 0) && (c.strange == 0))

-- each block came as often as it was expected
abbrev pub CameAsExpected : List (List ℕ) → List (List ℕ) → Type 0
CameAsExpected expected collected =
    (block : List ℕ) → copies block collected ≡ copies block expected
