use Rattle.std.proofs.Common.{ap, ◌∙◌}
use Rattle.std.specs.Option.{ok_or}
use Rattle.store.specs.declared.refusal.Refusal.TheVariants.{NoneWaiting}
use Rattle.strip.proofs.Found.{first_or_refused}
use Rattle.strip.proofs.Strip.first_on.Goals as goal

pub returns : goal.returns
returns c =
    first_or_refused c.args.self.now c.args.channel c.ok_or.result c.in_ok-channel.ensures.1 (c.ok_or.ensures.value ∙ ap (λ o. ok_or o NoneWaiting) c.find.ensures)
