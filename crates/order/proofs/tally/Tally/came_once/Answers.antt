-- One more of the blocks is counted, or not.
use Rattle.std.proofs.Common.{ap, arith}
use Rattle.order.specs.Blocks.{bytes_of}
use Rattle.order.specs.Comparison.{is_once}
use Rattle.order.proofs.Counting.{one_if, below_step, few}
use Rattle.order.proofs.tally.Tally.came_once.Goals as goal
use Rattle.order.proofs.tally.Tally.came_once.Goals.{then-is_once, else-is_once}

pub overflow_add-count : goal.overflow_add-count
overflow_add-count c =
    let p = is_once (bytes_of c.args.self.now.blocks.now) (bytes_of c.args.collected.now.blocks.now) in
    omega (arith, c.loop-place.invariant, few p c.loop-place.place, c.loop-place-test.true, c.loop-place.auto.place-end)

pub loop-place-preserved : goal.loop-place-preserved
loop-place-preserved c =
    let p = is_once (bytes_of c.args.self.now.blocks.now) (bytes_of c.args.collected.now.blocks.now) in
    let more = below_step p c.loop-place.place c.loop-place.count c.is_once.result c.loop-place.invariant c.is_once.ensures in
    elim c.if-is_once.branch [
      | then-is_once w ↦ omega (arith, more, ap one_if w.if-is_once.true, w.count-is)
      | else-is_once w ↦ omega (arith, more, ap one_if w.if-is_once.false, w.count-is)
    ]
