-- The run goes on by the call.
use Rattle.tnc.proofs.Laws.{hears_it}
use Rattle.tnc.proofs.tnc.Tnc.hear.Goals as goal

pub returns-clause-law : goal.returns-clause-law
returns-clause-law g c = λ i. hears_it c.args.self.now c.hear_byte.new.self c.args.byte i c.args.wire.now _ _ _ _ _ _ c.hear_byte.ensures.answer c.hear_byte.ensures.named c.hear_byte.ensures.after c.hear_byte.ensures.ear
