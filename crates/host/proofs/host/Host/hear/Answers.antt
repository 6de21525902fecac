-- The run goes on by the call.
use Rattle.host.proofs.Laws.{hears_it}
use Rattle.host.proofs.host.Host.hear.Goals as goal

pub returns-clause-law : goal.returns-clause-law
returns-clause-law g c = λ i. hears_it c.args.self.now c.hear_byte.new.self c.args.byte i _ _ _ _ _ c.hear_byte.ensures.named c.hear_byte.ensures.after c.hear_byte.ensures.ear
