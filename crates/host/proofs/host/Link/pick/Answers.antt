-- The lowest channel's first block is what the rules pick where no block was refused and no channel is left to poll.
use Rattle.std.proofs.Common.{Bool, false, not, sym, ap, ◌∙◌}
use Rattle.ends.specs.Host.{request_for}
use Rattle.ends.specs.Kept.{block_of}
use Rattle.host.specs.Asked.{block_request}
use Rattle.host.specs.Model.{host_of}
use Rattle.host.specs.Answers.{step_rule_of}
use Rattle.host.proofs.Picks.{first_kept, sends_block, pick_lowest}
use Rattle.host.proofs.host.Link.pick.Goals as goal

pub returns-in-Some-lowest : goal.returns-in-Some-lowest
returns-in-Some-lowest g c =
    let h = host_of c.args.self.now in
    let w = (g.O.Store.meaning c.args.out.now).waiting in
    let toggle : Bool = not c.args.self.now.last in
    let low = c.in-Some-lowest.ensures in
    let kept = c.unwrap in
    let k = c.in-Some-lowest.channel.number in
    let p = sends_block w k toggle (block_request k false toggle (block_of kept.result)) low.0 low.1 (λ b bs f. ap (block_request k false toggle) (first_kept c.first-in-Some-lowest.result kept.result (w k) b bs c.first-in-Some-lowest.ensures kept.ensures f)) in
    let e = pick_lowest h.block_refused h.poll_list w c.if-self.false c.in_default.ensures in
    record { rule = p.0 ∙ sym (ap step_rule_of e); asks = p.1 ∙ sym (ap (request_for toggle) e) }
