-- One more of the blocks is counted, or not.
use Rattle.std.proofs.Common.{ap, arith}
use Rattle.order.specs.Blocks.{bytes_of}
use Rattle.order.specs.Comparison.{is_surplus}
use Rattle.order.proofs.Counting.{one_if, below_step, few}
use Rattle.order.proofs.tally.Tally.surplus.Goals as goal
use Rattle.order.proofs.tally.Tally.surplus.Goals.{then-is_surplus, else-is_surplus}

pub overflow_add-count : goal.overflow_add-count
overflow_add-count c =
    let p = is_surplus (bytes_of c.args.self.now.blocks.now) (bytes_of c.args.others.now.blocks.now) in
    omega (arith, c.loop-place.invariant, few p c.loop-place.place, c.loop-place-test.true, c.loop-place.auto.place-end)

pub loop-place-preserved : goal.loop-place-preserved
loop-place-preserved c =
    let p = is_surplus (bytes_of c.args.self.now.blocks.now) (bytes_of c.args.others.now.blocks.now) in
    let more = below_step p c.loop-place.place c.loop-place.count c.is_surplus.result c.loop-place.invariant c.is_surplus.ensures in
    elim c.if-is_surplus.branch [
      | then-is_surplus w ↦ omega (arith, more, ap one_if w.if-is_surplus.true, w.count-is)
      | else-is_surplus w ↦ omega (arith, more, ap one_if w.if-is_surplus.false, w.count-is)
    ]
