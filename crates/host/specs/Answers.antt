-- What the host's calls answer: one definition for each answer gives every case its values.
use Rattle.std.specs.Prelude.{ℕ, cond, Some, None, Ok, Err, Option, Result, ◌==◌, nat_lt}
use Rattle.wire.specs.Wire.{longest_wire}
use Rattle.store.specs.Meaning.{Meaning}
use Rattle.ends.specs.declared.refusal.Refusal.{Refusal}
use Rattle.ends.specs.declared.refusal.Refusal.TheVariants.{NoRoom, ShortWire, WrongState}
use Rattle.ends.specs.Blocks.{Word, silent, confirms, doubts}
use Rattle.ends.specs.Named.{name_of}
use Rattle.ends.specs.Sent.{request_length}
use Rattle.ends.specs.Host as model
use Rattle.ends.specs.Host.{Sending, not_allowed, sends, sends_again, gives_up, open_rule, step_rule, timer_rule, Pick, poll_after_refusal, channel_poll, send_block_of, general_poll, pick, next_request, reset_request, loss_word, HostRule, stale, spare_used, opened, confirmed, block_refused, nothing_there, received, listed, no_room, falls}
use Rattle.host.specs.declared.note.DoubtNote.{DoubtNote}
use Rattle.host.specs.declared.answer.Cause.{Cause}
use Rattle.host.specs.declared.answer.Cause.TheVariants as cause
use Rattle.host.specs.declared.answer.Fall.{Fall}
use Rattle.host.specs.declared.answer.StepRule.{StepRule}
use Rattle.host.specs.declared.answer.StepRule.TheVariants as step
use Rattle.host.specs.declared.answer.Stepped.{Stepped}
use Rattle.host.specs.declared.answer.Timed.{Timed}
use Rattle.host.specs.declared.answer.Timed.TheVariants as timed
use Rattle.host.specs.declared.answer.Returned.{Returned}
use Rattle.host.specs.declared.answer.Heard.{Heard}
use Rattle.host.specs.declared.answer.Heard.TheVariants as heard

-- a call that writes: not allowed in this state (16), or the wire buffer too short (14), or granted
abbrev pub sent : {X : Type 0} → Sending → ℕ → X → X → Result X Refusal
sent not_allowed size again down = Err WrongState
sent sends size again down = cond (nat_lt size longest_wire) (Err ShortWire) (Ok again)
sent sends_again size again down = cond (nat_lt size longest_wire) (Err ShortWire) (Ok again)
sent gives_up size again down = cond (nat_lt size longest_wire) (Err ShortWire) (Ok down)

-- open: the length of what was sent
abbrev pub open_answer : model.Host → ℕ → Result ℕ Refusal
open_answer h size = sent (open_rule h.state) size (request_length (reset_request h.generation)) 0

-- step: the rule by which the frame was picked, and its length
abbrev pub step_rule_of : Pick → StepRule
step_rule_of poll_after_refusal = step.PollAfterRefusal
step_rule_of (channel_poll c) = step.ChannelPoll
step_rule_of (send_block_of c b) = step.Block
step_rule_of general_poll = step.GeneralPoll

abbrev pub stepped : model.Host → Meaning → Stepped
stepped h out = record { rule = step_rule_of (pick h.block_refused h.poll_list out.waiting); sent = request_length (next_request h out) }

abbrev pub step_answer : model.Host → Meaning → ℕ → Result Stepped Refusal
step_answer h out size = sent (step_rule h.state) size (stepped h out) (stepped h out)

-- a fall: its cause, and a note for the block that is named doubtful
abbrev pub doubt_by : Word → Option DoubtNote
doubt_by silent = None
doubt_by (confirms c n) = None
doubt_by (doubts c n) = Some (record { channel = c; number = n })

abbrev pub fall_by : Cause → Word → Fall
fall_by why word = record { cause = why; doubt = doubt_by word }

-- timer: the length of the repeat, or the fall
abbrev pub repeat_length : model.State → model.Host → ℕ
repeat_length model.fresh h = 0
repeat_length (model.opening r) h = request_length (reset_request h.generation)
repeat_length model.idle h = 0
repeat_length (model.on_its_way q r) h = request_length q
repeat_length model.down h = 0

abbrev pub timer_answer : model.Host → ℕ → Result Timed Refusal
timer_answer h size = sent (timer_rule h.setting h.state) size (timed.Repeated (repeat_length h.state h)) (timed.Down (fall_by cause.RepeatsUsed (loss_word h)))

-- how many bytes it sent
abbrev pub timed_length : Timed → ℕ
timed_length (timed.Repeated n) = n
timed_length (timed.Down f) = 0

-- hear: the rule met, and the block that it names
abbrev pub cause_of : ℕ → Cause
cause_of n = cond (n == 1) cause.RepeatsUsed (cond (n == 2) cause.SpareUsed cause.WrongAnswer)

-- a confirmation names its block; the other two cases do not occur
abbrev pub confirmed_by : Word → Heard
confirmed_by silent = heard.Stale
confirmed_by (confirms c n) = heard.Confirmed (name_of c n)
confirmed_by (doubts c n) = heard.Stale

abbrev pub heard_by : HostRule → Word → Result Heard Refusal
heard_by stale word = Ok heard.Stale
heard_by spare_used word = Ok heard.Stale
heard_by opened word = Ok heard.Opened
heard_by confirmed word = Ok (confirmed_by word)
heard_by block_refused word = Ok heard.BlockRefused
heard_by nothing_there word = Ok heard.NothingThere
heard_by received word = Ok heard.Received
heard_by listed word = Ok heard.Listed
heard_by no_room word = Err NoRoom
heard_by (falls n) word = Ok (heard.Down (fall_by (cause_of n) word))

-- the word that an answer says
abbrev pub doubt_word : Option DoubtNote → Word
doubt_word None = silent
doubt_word (Some note) = doubts note.channel note.number

abbrev pub rule_word : Heard → Word
rule_word heard.Stale = silent
rule_word heard.Opened = silent
rule_word (heard.Confirmed b) = confirms b.channel b.number
rule_word heard.BlockRefused = silent
rule_word heard.NothingThere = silent
rule_word heard.Received = silent
rule_word heard.Listed = silent
rule_word (heard.Down f) = doubt_word f.doubt

abbrev pub heard_word : Result Heard Refusal → Word
heard_word (Ok h) = rule_word h
heard_word (Err e) = silent

abbrev pub byte_word : Result (Option Heard) Refusal → Word
byte_word (Ok None) = silent
byte_word (Ok (Some h)) = rule_word h
byte_word (Err e) = silent

abbrev pub timed_is : Timed → Word
timed_is (timed.Repeated n) = silent
timed_is (timed.Down f) = doubt_word f.doubt

abbrev pub timed_word : Result Timed Refusal → Word
timed_word (Ok t) = timed_is t
timed_word (Err e) = silent

-- submit again: the block's number, or the refusal with the note handed back
abbrev pub again_answer : Result ℕ Refusal → DoubtNote → Result ℕ Returned
again_answer (Ok n) note = Ok n
again_answer (Err e) note = Err (record { refusal = e; note = note })
