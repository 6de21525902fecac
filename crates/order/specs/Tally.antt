-- What is kept of a list of blocks, so that copies need no walk over the list.
use Rattle.std.specs.Prelude.{ℕ, ◌+◌, List, take, unwrap_or}
use Rattle.std.specs.Borrow.{Bor}
use Rattle.std.specs.BTreeMap.{BTreeMap, get_by}
use Rattle.std.specs.Ordering.{nat_cmp}
use Rattle.std.specs.Cmp.Lexicographic.{slice_cmp}
use Rattle.order.specs.Comparison.{copies, block_at}

-- how often a block was met, by what the map has at its bytes
abbrev pub met_in : BTreeMap (Bor (List ℕ)) ℕ → List ℕ → ℕ
met_in times block = unwrap_or (get_by (λ k. slice_cmp nat_cmp block k.now) times) 0

-- which copy of its bytes block number k is, from 1
abbrev pub rank_at : List (List ℕ) → ℕ → ℕ
rank_at blocks k = copies (block_at blocks k) (take (k + 1) blocks)
