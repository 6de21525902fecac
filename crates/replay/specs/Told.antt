-- What a call tells: the event of what the end's own call answers.
use Rattle.std.specs.Prelude.{ℕ, Option, Some, Result, Ok, Err}
use Rattle.std.specs.Option.{option_map}
use Rattle.ends.specs.declared.refusal.Refusal.{Refusal}
use Rattle.host.specs.declared.note.DoubtNote.{DoubtNote}
use Rattle.host.specs.declared.answer.Fall.{Fall}
use Rattle.host.specs.declared.answer.Stepped.{Stepped}
use Rattle.host.specs.declared.answer.Timed.{Timed}
use Rattle.host.specs.declared.answer.Timed.TheVariants as timed
use Rattle.host.specs.declared.answer.Heard.{Heard}
use Rattle.host.specs.declared.answer.Heard.TheVariants as heard
use Rattle.tnc.specs.declared.answer.Heard as answered
use Rattle.replay.specs.declared.event.Sending.TheVariants as sending
use Rattle.replay.specs.declared.event.Met.TheVariants as met
use Rattle.replay.specs.declared.event.Doubt.{Doubt}
use Rattle.replay.specs.declared.event.Event.{Event}
use Rattle.replay.specs.declared.event.Event.TheVariants as event

abbrev pub open_told : Result ℕ Refusal → Event
open_told (Ok n) = event.Sent sending.Open n
open_told (Err e) = event.Refused e

abbrev pub step_told : Result Stepped Refusal → Event
step_told (Ok s) = event.Sent (sending.Step s.rule) s.sent
step_told (Err e) = event.Refused e

-- the link went down; the note for the block, if there is one, gets the next number
abbrev pub doubt_noted : ℕ → DoubtNote → Doubt
doubt_noted next d = record {
  block = record { channel = d.channel; number = d.number };
  note = next;
}

abbrev pub fall_told : ℕ → Fall → Event
fall_told next f = event.Down f.cause (option_map (doubt_noted next) f.doubt)

abbrev pub timer_told : ℕ → Result Timed Refusal → Event
timer_told next (Ok (timed.Repeated n)) = event.Sent sending.Repeat n
timer_told next (Ok (timed.Down f)) = fall_told next f
timer_told next (Err e) = event.Refused e

-- the rule that a frame met at the host
abbrev pub rule_told : ℕ → Heard → Event
rule_told next heard.Stale = event.Met met.Stale
rule_told next heard.Opened = event.Met met.Opened
rule_told next (heard.Confirmed b) = event.Confirmed b
rule_told next heard.BlockRefused = event.Met met.BlockRefused
rule_told next heard.NothingThere = event.Met met.NothingThere
rule_told next heard.Received = event.Met met.Received
rule_told next heard.Listed = event.Met met.Listed
rule_told next (heard.Down f) = fall_told next f

-- a byte on which nothing happens tells nothing
abbrev pub hear_told : ℕ → Result (Option Heard) Refusal → Option Event
hear_told next (Ok o) = option_map (rule_told next) o
hear_told next (Err e) = Some (event.Refused e)

-- the rule that a frame met at the TNC, the block that went, and the answer
abbrev pub answer_told : answered.Heard → Event
answer_told h = event.Answered h.rule h.went h.sent

abbrev pub tnc_told : Result (Option answered.Heard) Refusal → Option Event
tnc_told (Ok o) = option_map answer_told o
tnc_told (Err e) = Some (event.Refused e)

abbrev pub submit_told : Result ℕ Refusal → Event
submit_told (Ok n) = event.Number n
submit_told (Err e) = event.Refused e

abbrev pub collect_told : Result ℕ Refusal → Event
collect_told (Ok n) = event.Block n
collect_told (Err e) = event.Refused e
