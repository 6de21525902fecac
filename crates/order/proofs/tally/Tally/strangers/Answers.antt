-- One more of the blocks is counted, or not.
use Rattle.std.proofs.Common.{◌≡◌, ◌<◌, ◌==◌, [], length, vec_items, sym, ap, ◌∙◌, arith}
use Rattle.std.proofs.lemmas.Bool.{eq-eqb, ne_eqb}
use Rattle.std.proofs.lemmas.List.{length-map}
use Rattle.std.proofs.lemmas.List.Sums.{sum_by_more}
use Rattle.order.specs.Blocks.{bytes_of}
use Rattle.order.specs.Comparison.{block_at, is_strange}
use Rattle.order.proofs.Counting.{one_if, block_is}
use Rattle.order.proofs.tally.Tally.strangers.Goals as goal
use Rattle.order.proofs.tally.Tally.strangers.Goals.{then-copies-eq0, else-copies-eq0}

pub loop-block-preserved : goal.loop-block-preserved
loop-block-preserved c =
    let vs = c.args.self.now.blocks.now in
    let p = is_strange (bytes_of c.args.others.now.blocks.now) in
    let n = c.loop-block.block-index in
    let low : n < length vs = omega (arith, c.loop-block-test.true) in
    let more = sum_by_more (λ b. one_if (p b)) (bytes_of vs) n [] (omega (arith, low, length-map vs vec_items)) in
    let is = c.as_slice.ensures.value ∙ block_is vs n c.block-item.result low c.block-item.is in
    let test : (c.copies.result == 0) ≡ p (block_at (bytes_of vs) n) = ap (λ m. m == 0) c.copies.ensures ∙ ap p is in
    elim c.if-copies-eq0.branch [
      | then-copies-eq0 w ↦ omega (arith, more, c.loop-block.invariant, ap one_if (sym test ∙ eq-eqb c.copies.result 0 w.if-copies-eq0.true), w.count-is)
      | else-copies-eq0 w ↦ omega (arith, more, c.loop-block.invariant, ap one_if (sym test ∙ ne_eqb c.copies.result 0 w.if-copies-eq0.false), w.count-is)
    ]
