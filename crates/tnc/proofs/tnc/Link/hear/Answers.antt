-- A flagged general poll is a reset.
use Rattle.std.proofs.Common.{Ok, sym, ap, ◌∙◌, subst}
use Rattle.ends.specs.Tnc.{TncRule, by_tnc}
use Rattle.tnc.specs.Model.{tnc_of}
use Rattle.tnc.specs.Left.{Left}
use Rattle.tnc.specs.Request.{request_shown}
use Rattle.tnc.specs.Answers.{rule_met, with_step}
use Rattle.tnc.proofs.Rules.{reset_met}
use Rattle.tnc.proofs.tnc.Link.hear.Goals as goal

pub returns-then-request-clause-answer : goal.returns-then-request-clause-answer
returns-then-request-clause-answer g c =
    let t = tnc_of c.args.self.now in
    let q = request_shown c.args.request in
    let out = g.O.Store.meaning c.args.out.now in
    let inn = g.I.Store.meaning c.args.inn.now in
    let e = reset_met t q c.if-request.true (sym c.if-not-is_general_poll.ensures) in
    ap Ok (c.reset.ensures.answer inn) ∙ sym (ap (λ (r : TncRule). with_step (rule_met r q t out inn) (by_tnc r q t out inn)) e)

pub returns-then-request-clause-after : goal.returns-then-request-clause-after
returns-then-request-clause-after g c =
    let t = tnc_of c.args.self.now in
    let q = request_shown c.args.request in
    let out = g.O.Store.meaning c.args.out.now in
    let inn = g.I.Store.meaning c.args.inn.now in
    let e = reset_met t q c.if-request.true (sym c.if-not-is_general_poll.ensures) in
    subst (λ (r : TncRule). Left (by_tnc r q t out inn) (tnc_of c.reset.new.self) (g.O.Store.meaning c.reset.new.out) inn c.args.wire.now c.reset.new.wire) (sym e) (c.reset.ensures.after inn)
