-- How many of the blocks so far came once.
use Rattle.std.proofs.Common.{◌≡◌, count_by}
use Rattle.std.specs.List.{range_with_len}
use Rattle.order.specs.Blocks.{bytes_of}
use Rattle.order.specs.Comparison.{is_once}
use Rattle.order.proofs.tally.Tally.came_once.Given as goal

abbrev pub invariant-loop-place : goal.invariant-loop-place
invariant-loop-place l = l.count ≡ count_by (is_once (bytes_of l.self.blocks.now) (bytes_of l.collected.blocks.now)) (range_with_len 0 l.place)
