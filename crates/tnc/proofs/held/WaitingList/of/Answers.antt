-- The list of a store is good.
use Rattle.std.proofs.Common.{ap, ◌∙◌}
use Rattle.poll.specs.List.{list_of}
use Rattle.ends.specs.Frames.{is_good}
use Rattle.ends.proofs.Fit.{list_good}
use Rattle.tnc.proofs.held.WaitingList.of.Goals as goal

pub invariant_of-result : goal.invariant_of-result
invariant_of-result g c =
    let m = g.O.Store.meaning c.args.out.now in
    record { good = ap is_good (c.of.ensures.value ∙ ap list_of c.waiting.ensures) ∙ list_good m }
