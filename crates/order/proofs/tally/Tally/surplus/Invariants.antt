-- How many of the blocks so far are over.
use Rattle.std.proofs.Common.{◌≡◌, count_by}
use Rattle.std.specs.List.{range_with_len}
use Rattle.order.specs.Blocks.{bytes_of}
use Rattle.order.specs.Comparison.{is_surplus}
use Rattle.order.proofs.tally.Tally.surplus.Given as goal

abbrev pub invariant-loop-place : goal.invariant-loop-place
invariant-loop-place l = l.count ≡ count_by (is_surplus (bytes_of l.self.blocks.now) (bytes_of l.others.blocks.now)) (range_with_len 0 l.place)
