-- Each turn plays one call more.
use Rattle.link.specs.declared.call.Call.TheVariants.{HostOpen}
use Rattle.link.proofs.Lists.{none_played, more_played}
use Rattle.link.proofs.pair.Ends.play.Goals as goal

pub loop-call-init : goal.loop-call-init
loop-call-init g c = none_played g.W.Observer.gives g.W.Observer.sees _ _

pub loop-call-preserved : goal.loop-call-preserved
loop-call-preserved g c =
    more_played g.W.Observer.gives g.W.Observer.sees c.args.calls.now c.loop-call.call-index HostOpen _ _ _ _ _ _ _ c.make-event.result c.loop-call-test.true c.loop-call.invariant
    c.make-event.ensures.call c.make-event.ensures.one c.make-event.ensures.gave c.observe.ensures
