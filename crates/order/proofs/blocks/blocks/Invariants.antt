-- The first blocks of the text are there.
use Rattle.std.proofs.Common.{◌≡◌, ◌-◌, ◌≤◌, length, take}
use Rattle.order.specs.Blocks.{blocks_of, bytes_of}
use Rattle.order.proofs.blocks.blocks.Given as goal

abbrev pub invariant-loop-bytes : goal.invariant-loop-bytes
invariant-loop-bytes l = (bytes_of l.blocks.items ≡ take (length l.blocks.items) (blocks_of l.text)) × (length l.blocks.items ≤ length (blocks_of l.text))

abbrev pub decreases-loop-bytes : goal.decreases-loop-bytes
decreases-loop-bytes l = length (blocks_of l.text) - length l.blocks.items
