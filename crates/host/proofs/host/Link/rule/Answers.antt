-- A list is that of the general poll, and a frame out of sequence is told by its flag, its toggle or the state.
use Rattle.std.proofs.Common.{◌≡◌, false, ap, ◌∙◌, rules}
use Rattle.ends.specs.Host as model
use Rattle.host.specs.declared.asked.Asked.TheVariants as asked
use Rattle.host.specs.Asked.{asked_request}
use Rattle.host.specs.Model.{host_of, state_of}
use Rattle.host.proofs.Rules.{is_opened, is_idle, is_flagged, is_other_toggle, is_listed}
use Rattle.host.proofs.host.Link.rule.Goals as goal

pub returns-in-Opening-true-List : goal.returns-in-Opening-true-List
returns-in-Opening-true-List c = λ inn.
    let in_row = c.in-Opening-true-List in
    is_opened (host_of c.args.self.now) inn in_row.repeats-0 c.args.head c.args.frame in_row.text c.opened.result
    (ap state_of in_row.is-0) in_row.is-1 c.if-head-self.true in_row.is-2 c.requires (c.opened.ensures inn)

pub returns-in-Idle-default-default : goal.returns-in-Idle-default-default
returns-in-Idle-default-default c = λ inn.
    is_idle (host_of c.args.self.now) inn _ c.out_of_sequence.result
    (ap state_of c.in-Idle-default-default.is-0) (c.out_of_sequence.ensures inn)

pub returns-in-OnItsWay-true-default : goal.returns-in-OnItsWay-true-default
returns-in-OnItsWay-true-default c = λ inn.
    let rule = c.out_of_sequence-in-OnItsWay-true-default in
    is_flagged (host_of c.args.self.now) inn _ _ _ rule.result
    (ap state_of c.in-OnItsWay-true-default.is-0) c.in-OnItsWay-true-default.is-1 (rule.ensures inn)

pub returns-in-OnItsWay-false-default : goal.returns-in-OnItsWay-false-default
returns-in-OnItsWay-false-default c = λ inn.
    let rule = c.out_of_sequence-in-OnItsWay-false-default in
    is_other_toggle (host_of c.args.self.now) inn _ _ _ rule.result
    (ap state_of c.in-OnItsWay-false-default.is-0) c.in-OnItsWay-false-default.is-1 c.if-head-sent.true (rule.ensures inn)

pub returns-in-OnItsWay-GeneralPoll-default-false-List : goal.returns-in-OnItsWay-GeneralPoll-default-false-List
returns-in-OnItsWay-GeneralPoll-default-false-List c = λ inn.
    let on_its_way = c.in-OnItsWay-false-default in
    let list = c.in-OnItsWay-GeneralPoll-default-false-List in
    let polls : on_its_way.field-0-0 ≡ asked.GeneralPoll = search rules in
    is_listed (host_of c.args.self.now) inn on_its_way.sent.toggle on_its_way.sent.repeats c.args.head c.args.frame list.text c.listed.result
    (ap state_of on_its_way.is-0 ∙ ap (λ a. model.on_its_way (asked_request a false on_its_way.sent.toggle) on_its_way.sent.repeats) polls)
    on_its_way.is-1 c.if-head-sent.false list.is-2 c.requires (c.listed.ensures inn)
