-- The numbers, by what the tallies count.
use Rattle.std.proofs.Common.{◌≡◌, ℕ, List, Vec, length, vec_items, sym, ap, arith}
use Rattle.std.proofs.lemmas.List.{length-map}
use Rattle.order.specs.Blocks.{bytes_of}
use Rattle.order.proofs.Compared.{Counts, counts_at, strange_few, counted, once_counts, balances, whole}
use Rattle.order.proofs.comparison.compare_in.Goals as goal

size : {Z : Type 0} (blocks : List (Vec ℕ Z)) → length blocks ≡ length (bytes_of blocks)
size blocks = sym (length-map blocks vec_items)

abbrev counts : (c : goal.After-drop-expected-3) → Counts (bytes_of c.args.expected.now) (bytes_of c.args.collected.now) c.came_once-came_once.result c.surplus-lost.result c.surplus-over.result c.strangers-strange.result
counts c = counts_at (ap bytes_of c.in_ok-expected.ensures) (ap bytes_of c.in_ok-collected.ensures)
    (record { once_is = c.came_once-came_once.ensures; lost_is = c.surplus-lost.ensures; over_is = c.surplus-over.ensures; strange_is = c.strangers-strange.ensures })

pub overflow_sub-result : goal.overflow_sub-result
overflow_sub-result c = strange_few (bytes_of c.in_ok-expected.expected.blocks.now) (bytes_of c.in_ok-collected.collected.blocks.now) c.surplus-over.result c.strangers-strange.result c.surplus-over.ensures c.strangers-strange.ensures

pub returns-clause-counts : goal.returns-clause-counts
returns-clause-counts c = counted _ _ _ _ _ _ (counts c)

pub returns-clause-once : goal.returns-clause-once
returns-clause-once c = λ none. omega (arith, once_counts _ _ _ _ _ _ (counts c) none, size c.args.expected.now)

pub returns-clause-balance : goal.returns-clause-balance
returns-clause-balance c = omega (arith, balances _ _ _ _ _ _ (counts c), size c.args.expected.now, size c.args.collected.now)

pub returns-clause-whole : goal.returns-clause-whole
returns-clause-whole c = whole _ _ _ _ _ _ (counts c)
