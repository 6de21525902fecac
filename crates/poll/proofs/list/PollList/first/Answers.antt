-- The first channel left to poll, and none of an empty list.
use Rattle.std.proofs.Common.{arith}
use Rattle.poll.specs.declared.channel.Channel.{Channel}
use Rattle.poll.proofs.ListLeft.{left_first, left_none}
use Rattle.poll.proofs.list.PollList.first.Goals as goal

pub returns-then-self : goal.returns-then-self
returns-then-self c =
    let l = c.args.self.now in
    left_first (λ (x : Channel). x.number) l.channels l.next l.len c.index-self-self.result c.if-self.true (omega arith)

pub returns-else-self : goal.returns-else-self
returns-else-self c =
    let l = c.args.self.now in
    left_none (λ (x : Channel). x.number) l.channels l.next l.len c.if-self.false
