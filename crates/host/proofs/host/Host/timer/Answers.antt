-- The run goes on by the call.
use Rattle.host.proofs.Laws.{times}
use Rattle.host.proofs.host.Host.timer.Goals as goal

pub returns-clause-law : goal.returns-clause-law
returns-clause-law g c = λ inn. times c.args.self.now _ c.args.wire.now _ (g.O.Store.meaning c.args.out.now) inn (g.O.Store.meaning c.timer.new.out) _ c.timer.ensures.answer (c.timer.ensures.named inn) (c.timer.ensures.after inn)
