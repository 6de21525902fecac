-- The run goes on by the call.
use Rattle.host.proofs.Laws.{steps}
use Rattle.host.proofs.host.Host.step.Goals as goal

pub returns-clause-law : goal.returns-clause-law
returns-clause-law g c = λ inn. steps c.args.self.now _ c.args.wire.now _ (g.O.Store.meaning c.args.out.now) inn inn _ c.step.ensures.answer (c.step.ensures.after inn)
