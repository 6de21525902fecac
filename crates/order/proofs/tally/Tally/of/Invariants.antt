-- The blocks so far are counted.
use Rattle.order.specs.Blocks.{bytes_of}
use Rattle.order.proofs.Tallying.{Tallied}
use Rattle.order.proofs.tally.Tally.of.Given as goal

abbrev pub invariant-loop-block : goal.invariant-loop-block
invariant-loop-block l = Tallied (bytes_of l.blocks) l.block-index l.times l.ranks.items
