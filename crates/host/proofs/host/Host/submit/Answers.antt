-- The run goes on by the call.
use Rattle.std.proofs.Common.{ap₂, refl}
use Rattle.store.specs.Meaning.{plain}
use Rattle.law.specs.Runs.{host_submit}
use Rattle.host.specs.Model.{host_of}
use Rattle.host.proofs.Laws.{hands}
use Rattle.host.proofs.host.Host.submit.Goals as goal

pub returns-clause-law : goal.returns-clause-law
returns-clause-law g c = λ inn.
    let h = host_of c.args.self.now.link in
    let b = plain c.args.block.now in
    hands c.args.self.now (g.O.Store.meaning c.args.out.now) inn (host_submit c.args.channel b) c.args.channel b (λ w. refl) _ c.submit.ensures.answer _ _
    (ap₂ (λ s n. record h { submitted = s; gone = n }) c.submit.ensures.submitted c.submit.ensures.gone) c.submit.ensures.store
