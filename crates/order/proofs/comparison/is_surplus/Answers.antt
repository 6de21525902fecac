-- The block at the place is that of the definition.
use Rattle.order.proofs.Counting.{surplus_at}
use Rattle.order.proofs.comparison.is_surplus.Goals as goal

pub returns : goal.returns
returns c = surplus_at c.args.blocks.now c.args.others.now c.args.place c.index-blocks-place.result c.as_slice-block.result.now c.copies.result c.copies-2.result c.requires c.index-blocks-place.is c.as_slice-block.ensures.value c.copies.ensures c.copies-2.ensures
