-- The list without its first channel.
use Rattle.std.proofs.Common.{drop, sym, ap, ◌∙◌}
use Rattle.poll.specs.declared.channel.Channel.{Channel}
use Rattle.poll.proofs.ListLeft.{left_rest, left_none}
use Rattle.poll.proofs.list.PollList.drop_first.Goals as goal

pub returns-then-self : goal.returns-then-self
returns-then-self c =
    let l = c.args.self.now in
    left_rest (λ (x : Channel). x.number) l.channels l.next l.len

pub returns-else-self : goal.returns-else-self
returns-else-self c =
    let l = c.args.self.now in
    let e = left_none (λ (x : Channel). x.number) l.channels l.next l.len c.if-self.false in
    e ∙ ap (drop 1) (sym e)
