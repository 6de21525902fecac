-- The rule is the one that was confirmed.
use Rattle.std.proofs.Common.{Ok, sym, subst}
use Rattle.host.specs.declared.answer.Heard.TheVariants.{Confirmed}
use Rattle.host.specs.Model.{host_of}
use Rattle.host.specs.Rule.{Applies}
use Rattle.host.proofs.host.Link.apply.Goals as goal

pub returns-in-Confirmed : goal.returns-in-Confirmed
returns-in-Confirmed g c =
    let out = g.O.Store.meaning in
    let inn = g.I.Store.meaning c.args.inn.now in
    subst (λ r. Applies r c.args.toggle (host_of c.args.self.now) (out c.args.out.now) inn (host_of c.confirm.new.self) (out c.confirm.new.out) inn (Ok (Confirmed c.confirm.result)))
    (sym c.in-Confirmed.is) (c.confirm.ensures inn)
