-- The run goes on by the call.
use Rattle.host.proofs.Laws.{takes}
use Rattle.host.proofs.host.Host.collect.Goals as goal

pub returns-clause-law : goal.returns-clause-law
returns-clause-law g c = λ out. takes c.args.self.now out (g.I.Store.meaning c.args.inn.now) c.args.channel c.args.buffer.now _ _ _ c.collect.ensures.answer c.collect.ensures.buffer c.collect.ensures.store
