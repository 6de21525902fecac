-- The run goes on by the call.
use Rattle.std.proofs.Common.{ap₂}
use Rattle.store.specs.Meaning.{plain}
use Rattle.tnc.specs.Model.{tnc_of}
use Rattle.tnc.proofs.Laws.{hands}
use Rattle.tnc.proofs.tnc.Tnc.submit.Goals as goal

pub returns-clause-law : goal.returns-clause-law
returns-clause-law g c = λ inn.
    let t = tnc_of c.args.self.now.link in
    hands c.args.self.now (g.O.Store.meaning c.args.out.now) inn c.args.channel (plain c.args.block.now) _ c.submit.ensures.answer _ _
    (ap₂ (λ s n. record t { submitted = s; gone = n }) c.submit.ensures.submitted c.submit.ensures.gone) c.submit.ensures.store
