-- How the program tells what the ends answer.
use Rattle.std.specs.Prelude.{ℕ, List, [], ◌++◌, codes, decimal, Option, Some, None}
use Rattle.reader.specs.Fault.{fault_number, words_of}
use Rattle.order.specs.Summary.{byte_words}
use Rattle.store.specs.declared.refusal.Refusal.TheVariants as store
use Rattle.ends.specs.declared.name.Went.{Went}
use Rattle.ends.specs.declared.name.Went.TheVariants.{Confirmed, Doubtful}
use Rattle.ends.specs.declared.refusal.Refusal.{Refusal}
use Rattle.ends.specs.declared.refusal.Refusal.TheVariants as refusal
use Rattle.ends.specs.Refusal.{refusal_number}
use Rattle.host.specs.declared.note.DoubtNote.{DoubtNote}
use Rattle.host.specs.declared.answer.Cause.{Cause}
use Rattle.host.specs.declared.answer.Cause.TheVariants as cause
use Rattle.host.specs.declared.answer.Fall.{Fall}
use Rattle.host.specs.declared.answer.Heard.{Heard}
use Rattle.host.specs.declared.answer.Heard.TheVariants as heard
use Rattle.host.specs.declared.answer.StepRule.{StepRule}
use Rattle.host.specs.declared.answer.StepRule.TheVariants as step
use Rattle.host.specs.Cause.{cause_number}
use Rattle.tnc.specs.declared.answer.Heard as tnc
use Rattle.tnc.specs.declared.answer.Rule.{Rule}
use Rattle.tnc.specs.declared.answer.Rule.TheVariants as rule

-- what a step sent
abbrev pub step_text : StepRule → List ℕ
step_text step.PollAfterRefusal = codes "general poll after a refusal"
step_text step.ChannelPoll = codes "poll of a channel"
step_text step.Block = codes "block"
step_text step.GeneralPoll = codes "general poll"

-- the rule that a frame met at the modem
abbrev pub rule_text : Rule → List ℕ
rule_text rule.Reset = codes "reset"
rule_text rule.HeldAgain = codes "held again"
rule_text rule.BlockTaken = codes "block taken"
rule_text rule.NoPlace = codes "no place"
rule_text rule.NoChannel = codes "no channel"
rule_text rule.BlockGiven = codes "block given"
rule_text rule.NothingWaiting = codes "nothing waiting"
rule_text rule.ListGiven = codes "list given"
rule_text rule.Unknown = codes "unknown command"

-- why the link went down
abbrev pub cause_text : Cause → List ℕ
cause_text cause.RepeatsUsed = codes "the frame has had all its repeats"
cause_text cause.SpareUsed = codes "a frame out of sequence, and none could be expected"
cause_text cause.WrongAnswer = codes "an answer that does not answer the frame sent"

-- why an end refuses
abbrev pub refusal_text : Refusal → List ℕ
refusal_text (refusal.Reader fault) = codes "the reader dropped a frame"
refusal_text (refusal.Store store.BadChannel) = codes "no such channel"
refusal_text (refusal.Store store.BadLength) = codes "no block has this length"
refusal_text (refusal.Store store.Full) = codes "the store is full"
refusal_text (refusal.Store store.NoneWaiting) = codes "no block waits"
refusal_text (refusal.Store store.ShortBuffer) = codes "the buffer is short"
refusal_text refusal.FlaggedFrame = codes "a flagged frame that is no reset"
refusal_text refusal.BeforeReset = codes "a frame before the first reset"
refusal_text refusal.NoRoom = codes "no room for the block"
refusal_text refusal.ShortWire = codes "the wire buffer is short"
refusal_text refusal.NumbersUsed = codes "every number of the channel is used"
refusal_text refusal.WrongState = codes "not in this state"
refusal_text refusal.ManyRepeats = codes "more repeats than may be set"

-- with its number; a fault of the reader with its count
abbrev pub refusal_words : Refusal → List ℕ
refusal_words r =
    codes "refusal " ++ (decimal (refusal_number r)
    ++ (codes ": " ++ (refusal_text r ++ codes ".")))

abbrev pub dropped_words : Refusal → List ℕ
dropped_words (refusal.Reader fault) =
    codes "fault " ++ (decimal (fault_number fault.reason)
    ++ (codes " after " ++ (byte_words fault.count
    ++ (codes ": " ++ (words_of fault.reason ++ codes ". The frame is dropped.")))))
dropped_words r = refusal_words r

-- a block by its channel and number
abbrev pub block_words : ℕ → ℕ → List ℕ
block_words c n = codes "(" ++ (decimal c ++ (codes ", " ++ (decimal n ++ codes ")")))

abbrev pub doubt_words : Option DoubtNote → List ℕ
doubt_words None = codes " No block was on its way."
doubt_words (Some n) =
    codes " Its block " ++ (block_words n.channel n.number ++ codes " is doubtful.")

abbrev pub fall_words : Fall → List ℕ
fall_words f = codes "down, cause " ++ (decimal (cause_number f.cause)
    ++ (codes ": " ++ (cause_text f.cause ++ (codes "." ++ doubt_words f.doubt))))

-- the rule that a frame met at the terminal
abbrev pub heard_words : Heard → List ℕ
heard_words heard.Stale = codes "stale."
heard_words heard.Opened = codes "opened."
heard_words (heard.Confirmed b) =
    codes "confirmed: its block " ++ (block_words b.channel b.number ++ codes ".")
heard_words heard.BlockRefused = codes "block refused."
heard_words heard.NothingThere = codes "nothing there."
heard_words heard.Received = codes "received."
heard_words heard.Listed = codes "listed."
heard_words (heard.Down f) = fall_words f

-- the rule that a frame met at the modem, the block that left its store, and the answer's length
abbrev pub went_words : Option Went → List ℕ
went_words None = []
went_words (Some (Confirmed b)) =
    codes " Its block " ++ (block_words b.channel b.number ++ codes " is confirmed.")
went_words (Some (Doubtful b)) =
    codes " Its block " ++ (block_words b.channel b.number ++ codes " is doubtful.")

abbrev pub met_words : tnc.Heard → List ℕ
met_words h = rule_text h.rule
    ++ (codes "." ++ (went_words h.went ++ (codes " Answer: " ++ (byte_words h.sent ++ codes "."))))
