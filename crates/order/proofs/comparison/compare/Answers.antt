-- The numbers, by what the parts count.
use Rattle.std.proofs.Common.{◌≡◌, ℕ, List, Vec, length, vec_items, sym, arith}
use Rattle.std.proofs.lemmas.List.{length-map}
use Rattle.order.specs.Blocks.{bytes_of}
use Rattle.order.proofs.Compared.{Counts, strange_few, counted, once_counts, balances, whole}
use Rattle.order.proofs.comparison.compare.Goals as goal

size : {Z : Type 0} (blocks : List (Vec ℕ Z)) → length blocks ≡ length (bytes_of blocks)
size blocks = sym (length-map blocks vec_items)

pub overflow_sub-result : goal.overflow_sub-result
overflow_sub-result c = strange_few (bytes_of c.args.expected.now) (bytes_of c.args.collected.now) c.surplus-over.result c.strangers-strange.result c.surplus-over.ensures c.strangers-strange.ensures

abbrev counts : (c : goal.After-strangers-strange) → Counts (bytes_of c.args.expected.now) (bytes_of c.args.collected.now) c.come_once-came_once.result c.surplus-lost.result c.surplus-over.result c.strangers-strange.result
counts c = record { once_is = c.come_once-came_once.ensures; lost_is = c.surplus-lost.ensures; over_is = c.surplus-over.ensures; strange_is = c.strangers-strange.ensures }

pub returns-clause-counts : goal.returns-clause-counts
returns-clause-counts c = counted _ _ _ _ _ _ (counts c)

pub returns-clause-once : goal.returns-clause-once
returns-clause-once c = λ none. omega (arith, once_counts _ _ _ _ _ _ (counts c) none, size c.args.expected.now)

pub returns-clause-balance : goal.returns-clause-balance
returns-clause-balance c = omega (arith, balances _ _ _ _ _ _ (counts c), size c.args.expected.now, size c.args.collected.now)

pub returns-clause-whole : goal.returns-clause-whole
returns-clause-whole c = whole _ _ _ _ _ _ (counts c)
