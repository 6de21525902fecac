-- The rule that was found confirms the block on its way alone.
use Rattle.host.proofs.host.Link.hear.Goals as goal

pub apply-requires : goal.apply-requires
apply-requires g c = (c.rule-rule.ensures (g.I.Store.meaning c.args.inn.now)).confirms
