-- The run goes on by the call.
use Rattle.host.proofs.Laws.{opens}
use Rattle.host.proofs.host.Host.open.Goals as goal

pub returns-clause-law : goal.returns-clause-law
returns-clause-law c = λ out inn. opens c.args.self.now _ c.args.wire.now _ out inn inn _ c.open.ensures.answer (c.open.ensures.after out inn)
