-- The channels below the counter are marked as they wait.
use Rattle.std.proofs.Common.{◌≡◌, length, take}
use Rattle.poll.specs.Channel.{channels}
use Rattle.ends.specs.Tnc.{waiting_to}
use Rattle.tnc.proofs.held.listing.waiting.Given as goal

abbrev pub invariant-loop-channel : goal.invariant-loop-channel
invariant-loop-channel g l = record {
  size : length l.waiting ≡ channels;
  marks : take l.channel l.waiting ≡ waiting_to l.channel (g.O.Store.meaning l.out).waiting;
}
