use Rattle.std.proofs.Common.{◌≡◌, ◌++◌, ◌∙◌, arith, sym, ap, append-nil}
use Rattle.std.specs.Option.{option_map, option_to_list}
use Rattle.host.specs.Model.{host_of}
use Rattle.tnc.specs.Model.{tnc_of}
use Rattle.replay.specs.declared.ending.FinalLine.TheVariants.{Channel}
use Rattle.replay.specs.Ending.{channel_line}
use Rattle.replay.proofs.Counted.{counted_more, all_channels}
use Rattle.replay.proofs.session.Session.push_channels.Goals as goal
use Rattle.replay.proofs.session.Session.push_channels.Goals.{in-Some+in_ok-push, in_default}

pub loop-channel-preserved : goal.loop-channel-preserved
loop-channel-preserved c =
    let line = channel_line c.args.end (host_of c.args.self.now.host.link) (tnc_of c.args.self.now.tnc.link) in
    let before = c.loop-channel.lines.items in
    let more = counted_more line c.loop-channel.channel c.args.lines.now.items before c.loop-channel.invariant in
    let pushed : c.match-tally.lines.items ≡ before ++ option_to_list (line c.loop-channel.channel) =
    elim c.match-tally.branch [
      | in-Some+in_ok-push w ↦
          ap (λ v. v.items) w.lines-is
          ∙ w.in_ok-push.ensures.items
          ∙ ap (λ o. before ++ option_to_list (option_map (Channel c.args.end) o)) (sym w.in-Some.is ∙ c.tally.ensures)
      | in_default w ↦
          ap (λ v. v.items) w.lines-is
          ∙ sym (append-nil before)
          ∙ ap (λ o. before ++ option_to_list (option_map (Channel c.args.end) o)) (sym w.in_default.is ∙ c.tally.ensures)
    ] in
    pushed ∙ more

pub returns : goal.returns
returns c = all_channels _ c.loop-channel.channel _ _ (omega arith) c.loop-channel.invariant
