use Rattle.std.proofs.Common.{◌≡◌, ◌++◌}
use Rattle.std.specs.List.{filter_map, range_with_len}
use Rattle.host.specs.Model.{host_of}
use Rattle.tnc.specs.Model.{tnc_of}
use Rattle.replay.specs.Ending.{channel_line}
use Rattle.replay.proofs.session.Session.push_channels.Given as goal

abbrev pub invariant-loop-channel : goal.invariant-loop-channel
invariant-loop-channel l = l.lines.items ≡ l.fn.lines.items ++ filter_map
    (channel_line l.end (host_of l.self.host.link) (tnc_of l.self.tnc.link)) (range_with_len 0 l.channel)
