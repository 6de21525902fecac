-- How it is told what came of a call or of a byte: one definition for each answer gives every case
-- its words.
use Rattle.std.specs.Prelude.{ℕ, List, [], ◌++◌, take, codes, decimal, Option, Some, None}
use Rattle.hex.specs.Hex.{encode_upper}
use Rattle.reader.specs.Fault.{fault_number}
use Rattle.ends.specs.declared.name.BlockName.{BlockName}
use Rattle.ends.specs.declared.name.Went.{Went}
use Rattle.ends.specs.declared.name.Went.TheVariants.{Confirmed, Doubtful}
use Rattle.ends.specs.declared.refusal.Refusal.{Refusal}
use Rattle.ends.specs.declared.refusal.Refusal.TheVariants as refusal
use Rattle.ends.specs.Refusal.{refusal_number}
use Rattle.host.specs.declared.answer.StepRule.{StepRule}
use Rattle.host.specs.declared.answer.StepRule.TheVariants as step
use Rattle.host.specs.Cause.{cause_number}
use Rattle.tnc.specs.declared.answer.Rule.{Rule}
use Rattle.tnc.specs.declared.answer.Rule.TheVariants as rule
use Rattle.replay.specs.declared.buffers.Buffers.{Buffers}
use Rattle.replay.specs.declared.event.Sending.{Sending}
use Rattle.replay.specs.declared.event.Sending.TheVariants as sending
use Rattle.replay.specs.declared.event.Met.{Met}
use Rattle.replay.specs.declared.event.Met.TheVariants as met
use Rattle.replay.specs.declared.event.Doubt.{Doubt}
use Rattle.replay.specs.declared.event.Event.{Event}
use Rattle.replay.specs.declared.event.Event.TheVariants as event

-- why the host sends a frame
abbrev pub step_word : StepRule → List ℕ
step_word step.PollAfterRefusal = codes "poll-after-refusal"
step_word step.ChannelPoll = codes "channel-poll"
step_word step.Block = codes "block"
step_word step.GeneralPoll = codes "general-poll"

abbrev pub sending_word : Sending → List ℕ
sending_word sending.Open = codes "open"
sending_word (sending.Step r) = step_word r
sending_word sending.Repeat = codes "repeated"

-- the rule that a frame met at the host, and at the TNC
abbrev pub met_word : Met → List ℕ
met_word met.Opened = codes "opened"
met_word met.BlockRefused = codes "block-refused"
met_word met.NothingThere = codes "nothing-there"
met_word met.Received = codes "received"
met_word met.Listed = codes "listed"
met_word met.Stale = codes "stale"

abbrev pub rule_word : Rule → List ℕ
rule_word rule.Reset = codes "reset"
rule_word rule.HeldAgain = codes "held-again"
rule_word rule.BlockTaken = codes "block-taken"
rule_word rule.NoPlace = codes "no-place"
rule_word rule.NoChannel = codes "no-channel"
rule_word rule.BlockGiven = codes "block-given"
rule_word rule.NothingWaiting = codes "nothing-waiting"
rule_word rule.ListGiven = codes "list-given"
rule_word rule.Unknown = codes "unknown"

-- a block, which of them went, and the doubtful one with the note for it
abbrev pub block_words : BlockName → List ℕ
block_words b = decimal b.channel ++ (codes " " ++ decimal b.number)

abbrev pub went_words : Option Went → List ℕ
went_words None = []
went_words (Some (Confirmed b)) = codes " confirmed " ++ block_words b
went_words (Some (Doubtful b)) = codes " doubtful " ++ block_words b

abbrev pub doubt_words : Option Doubt → List ℕ
doubt_words None = []
doubt_words (Some d) =
    codes " doubtful " ++ (block_words d.block ++ (codes " note " ++ decimal d.note))

-- a refusal by its number; a fault of the reader with its count
abbrev pub refused_words : ℕ → List ℕ
refused_words n = codes "refused " ++ decimal n

abbrev pub refusal_words : Refusal → List ℕ
refusal_words (refusal.Reader f) =
    codes "fault " ++ (decimal (fault_number f.reason) ++ (codes " count " ++ decimal f.count))
refusal_words r = refused_words (refusal_number r)

-- so many bytes of a buffer, from its start
abbrev pub bytes_words : ℕ → List ℕ → List ℕ
bytes_words n buffer = encode_upper (take n buffer)

-- an event, with the bytes that the buffers hold after its call
abbrev pub event_words : Event → Buffers → List ℕ
event_words (event.Sent s n) b = sending_word s ++ (codes " sent " ++ bytes_words n b.wire.items)
event_words (event.Down c d) b = codes "down cause " ++ (decimal (cause_number c) ++ doubt_words d)
event_words (event.Met m) b = met_word m
event_words (event.Confirmed n) b = codes "confirmed " ++ block_words n
event_words (event.Answered r w n) b =
    rule_word r ++ (went_words w ++ (codes " sent " ++ bytes_words n b.wire.items))
event_words (event.Number n) b = codes "number " ++ decimal n
event_words event.WrittenOff b = codes "written off"
event_words (event.Block n) b = codes "block " ++ bytes_words n b.block.items
event_words (event.Refused r) b = refusal_words r
event_words (event.NoNote n) b = codes "no note " ++ decimal n
