-- How many of the blocks so far have no copy.
use Rattle.std.proofs.Common.{◌≡◌, take, count_by}
use Rattle.order.specs.Blocks.{bytes_of}
use Rattle.order.specs.Comparison.{is_strange}
use Rattle.order.proofs.tally.Tally.strangers.Given as goal

abbrev pub invariant-loop-block : goal.invariant-loop-block
invariant-loop-block l = l.count ≡ count_by (is_strange (bytes_of l.others.blocks.now)) (take l.block-index (bytes_of l.self.blocks.now))
