-- What holds of the values read so far: they are good, their channels are marked, and the list has them.
use Rattle.std.proofs.Common.{◌≡◌, ℕ, ◌+◌, map, length, take}
use Rattle.poll.specs.declared.channel.Channel.{Channel}
use Rattle.poll.specs.List.{GoodTo, Names}
use Rattle.poll.proofs.ListSeen.{trues}
use Rattle.poll.proofs.list.PollList.read.Given as goal

abbrev pub invariant-loop-value : goal.invariant-loop-value
invariant-loop-value l =
    (length l.seen ≡ 64) × (length l.channels ≡ 64) × (trues l.seen ≡ l.len)
    × Names l.seen (take l.value-index l.values)
    × GoodTo l.values l.value-index
    × (map (λ (c : ℕ). c + 1) (map (λ (c : Channel). c.number) (take l.len l.channels)) ≡ take l.value-index l.values)
