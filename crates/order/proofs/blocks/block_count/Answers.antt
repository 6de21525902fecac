-- The number of blocks, and that they join to the text.
use Rattle.std.proofs.Common.{arith}
use Rattle.order.proofs.Cutting.{count_is, whole}
use Rattle.order.proofs.blocks.block_count.Goals as goal

pub returns : goal.returns
returns c = record { value = omega (arith, count_is c.args.text.now); whole = whole c.args.text.now }
