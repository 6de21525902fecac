-- The block at the place is that of the definition.
use Rattle.std.proofs.Common.{Bool, not, ◌&&◌, nat_le, vec_items, sym, ap, ◌∙◌}
use Rattle.order.specs.Blocks.{bytes_of}
use Rattle.order.specs.Comparison.{copies, block_at}
use Rattle.order.proofs.Counting.{within_at}
use Rattle.order.proofs.tally.Tally.is_once.Goals as goal

pub returns-then-not-lost : goal.returns-then-not-lost
returns-then-not-lost c =
    let es = bytes_of c.args.self.now.blocks.now in
    let cs = bytes_of c.args.collected.now.blocks.now in
    let b = block_at es c.args.place in
    let fits = within_at c.args.self.now.blocks.now c.args.collected.now.blocks.now c.args.place c.index-self-place.result c.as_slice-block.result.now c.copies.result c.copies-then-not-lost.result c.requires c.index-self-place.is (c.as_slice-block.ensures.value ∙ sym (ap vec_items c.index-self-place.is)) c.copies.ensures c.copies-then-not-lost.ensures in
    fits ∙ ap (λ (t : Bool). not t && nat_le (copies b cs) (copies b es)) (sym c.if-not-lost.true ∙ c.is_surplus-lost.ensures)
