-- The block at the place is that of the definition.
use Rattle.std.proofs.Common.{Bool, not, ◌&&◌, nat_le, sym, ap, ◌∙◌}
use Rattle.order.specs.Blocks.{bytes_of}
use Rattle.order.specs.Comparison.{copies, block_at}
use Rattle.order.proofs.Counting.{within_at}
use Rattle.order.proofs.comparison.is_once.Goals as goal

pub returns-then-not-lost : goal.returns-then-not-lost
returns-then-not-lost c =
    let es = bytes_of c.args.expected.now in
    let cs = bytes_of c.args.collected.now in
    let b = block_at es c.args.place in
    let fits = within_at c.args.expected.now c.args.collected.now c.args.place c.index-expected-place.result c.as_slice-block.result.now c.copies.result c.copies-then-not-lost.result c.requires c.index-expected-place.is c.as_slice-block.ensures.value c.copies.ensures c.copies-then-not-lost.ensures in
    fits ∙ ap (λ (t : Bool). not t && nat_le (copies b cs) (copies b es)) (sym c.if-not-lost.true ∙ c.is_surplus-lost.ensures)
