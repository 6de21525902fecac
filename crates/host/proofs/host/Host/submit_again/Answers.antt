-- The run goes on by the call: it is a submit.
use Rattle.std.proofs.Common.{Ok, Err, sym, refl, ◌∙◌}
use Rattle.store.specs.Meaning.{plain}
use Rattle.law.specs.Runs.{host_submit_again}
use Rattle.host.proofs.Laws.{hands_again}
use Rattle.host.proofs.host.Host.submit_again.Goals as goal

pub returns-in-Ok-clause-law : goal.returns-in-Ok-clause-law
returns-in-Ok-clause-law g c = λ inn.
    hands_again c.args.self.now (g.O.Store.meaning c.args.out.now) inn (host_submit_again c.args.note.channel c.args.note.number (plain c.args.block.now)) c.args.note.channel c.channel.result (plain c.args.block.now) (λ w. refl) (Ok c.in-Ok.number)
    (sym c.channel.ensures) (sym c.in-Ok.is ∙ c.submit.ensures.answer) c.submit.new.self _ c.submit.ensures.after c.submit.ensures.ear c.submit.ensures.out

pub returns-in-Err-clause-law : goal.returns-in-Err-clause-law
returns-in-Err-clause-law g c = λ inn.
    hands_again c.args.self.now (g.O.Store.meaning c.args.out.now) inn (host_submit_again c.args.note.channel c.args.note.number (plain c.args.block.now)) c.args.note.channel c.channel.result (plain c.args.block.now) (λ w. refl) (Err c.in-Err.refusal)
    (sym c.channel.ensures) (sym c.in-Err.is ∙ c.submit.ensures.answer) c.submit.new.self _ c.submit.ensures.after c.submit.ensures.ear c.submit.ensures.out
