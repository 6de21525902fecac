-- The host end: what it keeps, and its rules. Each call's contract cites these, and runs of the link are made of them.
use Rattle.std.specs.Prelude.{ℕ, zero, suc, pred, min, Bool, true, false, cond, not, ◌&&◌, List, [], ◌∷◌, ◌==◌, nat_lt}
use Rattle.std.specs.Bool.{beq}
use Rattle.poll.specs.Channel.{channels}
use Rattle.frame.specs.Frame.{general}
use Rattle.wire.specs.Wire.{longest_wire}
use Rattle.store.specs.Meaning.{Block, Meaning}
use Rattle.store.specs.Rules.{put_answer, put_after}
use Rattle.ends.specs.Limits.{last_spare}
use Rattle.ends.specs.Frames.{Load, poll, information, command, Request, Reply, success, message, failure, block, other, Answer, Cargo, empty, holds, cargo_of, cargo_in, is_good, listed_channels, Written, nothing, one}
use Rattle.ends.specs.Blocks.{Word, silent, confirm_of, doubt_of, leaves, one_more_counted, counts, granted}

-- WHAT IT KEEPS

-- fresh; opening, with the repeats since that open; idle; a request on its way, with its repeats; down
pub data State : Type 0 where
  fresh : State
  opening : ℕ → State
  idle : State
  on_its_way : Request → ℕ → State
  down : State

-- setting: how often a frame is repeated; generation: the toggle of every reset until the link opens next; last: the toggle
-- of the last answer taken; spare: how many frames out of sequence may still come; resets: how often this generation's reset
-- was sent; poll_list: the channels left to poll; block_refused: the last answer taken refused a block; submitted and gone:
-- counts by channel
pub record Host : Type 0 where
  pub setting : ℕ
  pub state : State
  pub generation : Bool
  pub last : Bool
  pub spare : ℕ
  pub resets : ℕ
  pub poll_list : List ℕ
  pub block_refused : Bool
  pub submitted : ℕ → ℕ
  pub gone : ℕ → ℕ

abbrev pub new_host : ℕ → Host
new_host setting = record { setting = setting; state = fresh; generation = false; last = false; spare = 0; resets = 0; poll_list = []; block_refused = false; submitted = λ c. 0; gone = λ c. 0 }

abbrev pub in_state : Host → State → Host
in_state h s = record { setting = h.setting; state = s; generation = h.generation; last = h.last; spare = h.spare; resets = h.resets; poll_list = h.poll_list; block_refused = h.block_refused; submitted = h.submitted; gone = h.gone }

-- after submissions: only their counts are others
abbrev pub host_counts : Host → (ℕ → ℕ) → Host
host_counts h s = record { setting = h.setting; state = h.state; generation = h.generation; last = h.last; spare = h.spare; resets = h.resets; poll_list = h.poll_list; block_refused = h.block_refused; submitted = s; gone = h.gone }

-- what a call leaves of the host and its two stores, what it writes, and the block that its answer names
pub record HostStep : Type 0 where
  pub host : Host
  pub out : Meaning
  pub inn : Meaning
  pub wrote : Written Request
  pub word : Word

abbrev pub stays : Host → Meaning → Meaning → HostStep
stays h out inn = record { host = h; out = out; inn = inn; wrote = nothing; word = silent }

-- a call that may write is refused, and leaves all, where the wire buffer is too short
abbrev pub in_wire : ℕ → Host → Meaning → Meaning → HostStep → HostStep
in_wire size h out inn s = cond (nat_lt size longest_wire) (stays h out inn) s

-- GOING DOWN

-- the block on its way, if one is; and the channel byte of the frame on its way, the general poll's where none is
abbrev pub aboard : State → Cargo
aboard fresh = empty
aboard (opening r) = empty
aboard idle = empty
aboard (on_its_way q r) = cargo_of q.load
aboard down = empty

abbrev pub aboard_on : State → ℕ
aboard_on fresh = general
aboard_on (opening r) = general
aboard_on idle = general
aboard_on (on_its_way q r) = q.channel
aboard_on down = general

-- a block that goes has the number after those that are gone
abbrev pub loss_word : Host → Word
loss_word h = doubt_of (aboard_on h.state) (one_more_counted (h.gone (aboard_on h.state))) (aboard h.state)

abbrev pub confirm_word : Host → Word
confirm_word h = confirm_of (aboard_on h.state) (one_more_counted (h.gone (aboard_on h.state))) (aboard h.state)

-- the block on its way is doubtful: it is named, leaves its store, and counts as gone
abbrev pub fallen : Host → Host
fallen h = record { setting = h.setting; state = down; generation = h.generation; last = h.last; spare = h.spare; resets = h.resets; poll_list = h.poll_list; block_refused = h.block_refused; submitted = h.submitted; gone = counts (loss_word h) h.gone }

abbrev pub goes_down : Host → Meaning → Meaning → HostStep
goes_down h out inn = record {
  host = fallen h;
  out = leaves (loss_word h) out;
  inn = inn;
  wrote = nothing;
  word = loss_word h;
}

-- OPEN, STEP, TIMER

-- what a state makes of such a call
pub data Sending : Type 0 where
  not_allowed : Sending
  sends : Sending
  sends_again : Sending
  gives_up : Sending

abbrev pub open_rule : State → Sending
open_rule fresh = sends
open_rule (opening r) = not_allowed
open_rule idle = not_allowed
open_rule (on_its_way q r) = not_allowed
open_rule down = sends

abbrev pub step_rule : State → Sending
step_rule fresh = not_allowed
step_rule (opening r) = not_allowed
step_rule idle = sends
step_rule (on_its_way q r) = not_allowed
step_rule down = not_allowed

abbrev pub timer_rule : ℕ → State → Sending
timer_rule setting fresh = not_allowed
timer_rule setting (opening r) = cond (nat_lt r setting) sends_again gives_up
timer_rule setting idle = not_allowed
timer_rule setting (on_its_way q r) = cond (nat_lt r setting) sends_again gives_up
timer_rule setting down = not_allowed

-- the flagged general poll
abbrev pub reset_request : Bool → Request
reset_request generation = record { channel = general; reset = true; toggle = generation; load = poll }

-- resets are counted as far as spare can tell
abbrev pub one_reset_more : ℕ → ℕ
one_reset_more n = min (suc n) (suc last_spare)

abbrev pub by_open : Sending → Host → Meaning → Meaning → HostStep
by_open not_allowed h out inn = stays h out inn
by_open sends h out inn = record {
  host = record { setting = h.setting; state = opening 0; generation = h.generation; last = h.last; spare = h.spare; resets = one_reset_more h.resets; poll_list = []; block_refused = h.block_refused; submitted = h.submitted; gone = h.gone };
  out = out;
  inn = inn;
  wrote = one (reset_request h.generation);
  word = silent;
}
by_open sends_again h out inn = stays h out inn
by_open gives_up h out inn = stays h out inn

-- what step sends: the first that applies
pub data Pick : Type 0 where
  poll_after_refusal : Pick
  channel_poll : ℕ → Pick
  send_block_of : ℕ → Block → Pick
  general_poll : Pick

abbrev pub or_else : Pick → List Block → ℕ → Pick
or_else poll_after_refusal blocks c = poll_after_refusal
or_else (channel_poll k) blocks c = channel_poll k
or_else (send_block_of k b) blocks c = send_block_of k b
or_else general_poll [] c = general_poll
or_else general_poll (b ∷ blocks) c = send_block_of c b

-- the first block of the lowest channel below n that has one
unfoldable pub lowest_below : ℕ → (ℕ → List Block) → Pick
lowest_below zero waiting = general_poll
lowest_below (suc n) waiting = or_else (lowest_below n waiting) (waiting n) n

abbrev pub pick : Bool → List ℕ → (ℕ → List Block) → Pick
pick true list waiting = poll_after_refusal
pick false [] waiting = lowest_below channels waiting
pick false (c ∷ list) waiting = channel_poll c

-- a channel that is polled leaves the list
abbrev pub list_after : Bool → List ℕ → List ℕ
list_after true list = list
list_after false [] = []
list_after false (c ∷ list) = list

abbrev pub request_for : Bool → Pick → Request
request_for toggle poll_after_refusal = record { channel = general; reset = false; toggle = toggle; load = poll }
request_for toggle (channel_poll c) = record { channel = c; reset = false; toggle = toggle; load = poll }
request_for toggle (send_block_of c b) = record { channel = c; reset = false; toggle = toggle; load = information b }
request_for toggle general_poll = record { channel = general; reset = false; toggle = toggle; load = poll }

abbrev pub next_request : Host → Meaning → Request
next_request h out = request_for (not h.last) (pick h.block_refused h.poll_list out.waiting)

abbrev pub by_step : Sending → Host → Meaning → Meaning → HostStep
by_step not_allowed h out inn = stays h out inn
by_step sends h out inn = record {
  host = record { setting = h.setting; state = on_its_way (next_request h out) 0; generation = h.generation; last = h.last; spare = h.spare; resets = h.resets; poll_list = list_after h.block_refused h.poll_list; block_refused = h.block_refused; submitted = h.submitted; gone = h.gone };
  out = out;
  inn = inn;
  wrote = one (next_request h out);
  word = silent;
}
by_step sends_again h out inn = stays h out inn
by_step gives_up h out inn = stays h out inn

abbrev pub repeats_of : State → ℕ
repeats_of fresh = 0
repeats_of (opening r) = r
repeats_of idle = 0
repeats_of (on_its_way q r) = r
repeats_of down = 0

abbrev pub one_repeat : State → State
one_repeat fresh = fresh
one_repeat (opening r) = opening (suc r)
one_repeat idle = idle
one_repeat (on_its_way q r) = on_its_way q (suc r)
one_repeat down = down

-- the frame kept, once more
abbrev pub sent_again : State → Bool → Written Request
sent_again fresh generation = nothing
sent_again (opening r) generation = one (reset_request generation)
sent_again idle generation = nothing
sent_again (on_its_way q r) generation = one q
sent_again down generation = nothing

-- the count of resets after a repeat: one more in opening
abbrev pub reset_again_rule : State → ℕ → ℕ
reset_again_rule fresh n = n
reset_again_rule (opening r) n = one_reset_more n
reset_again_rule idle n = n
reset_again_rule (on_its_way q r) n = n
reset_again_rule down n = n

abbrev pub by_timer : Sending → Host → Meaning → Meaning → HostStep
by_timer not_allowed h out inn = stays h out inn
by_timer sends h out inn = stays h out inn
by_timer sends_again h out inn = record {
  host = record { setting = h.setting; state = one_repeat h.state; generation = h.generation; last = h.last; spare = h.spare; resets = reset_again_rule h.state h.resets; poll_list = h.poll_list; block_refused = h.block_refused; submitted = h.submitted; gone = h.gone };
  out = out;
  inn = inn;
  wrote = sent_again h.state h.generation;
  word = silent;
}
by_timer gives_up h out inn = goes_down h out inn

abbrev pub open_step : Host → Meaning → Meaning → HostStep
open_step h out inn = by_open (open_rule h.state) h out inn

abbrev pub step_step : Host → Meaning → Meaning → HostStep
step_step h out inn = by_step (step_rule h.state) h out inn

abbrev pub timer_step : Host → Meaning → Meaning → HostStep
timer_step h out inn = by_timer (timer_rule h.setting h.state) h out inn

-- HEAR: the rule that a frame meets

-- stale: passed over; spare_used: stale, one spare less; no_room: refusal 9; falls: down, with its cause
pub data HostRule : Type 0 where
  stale : HostRule
  spare_used : HostRule
  opened : HostRule
  confirmed : HostRule
  block_refused : HostRule
  nothing_there : HostRule
  received : HostRule
  listed : HostRule
  no_room : HostRule
  falls : ℕ → HostRule

-- a frame out of sequence, while spare lasts
abbrev pub out_of_sequence_rule : ℕ → HostRule
out_of_sequence_rule zero = falls 2
out_of_sequence_rule (suc n) = spare_used

-- answers in sequence to a block, to a channel's poll and to the general poll
abbrev pub to_block_rule : Reply → HostRule
to_block_rule success = confirmed
to_block_rule (message t) = confirmed
to_block_rule (failure t) = block_refused
to_block_rule (block b) = falls 3
to_block_rule (other code p) = falls 3

-- room: whether the incoming store takes the block
abbrev pub to_poll_rule : (Block → Bool) → Reply → HostRule
to_poll_rule room success = nothing_there
to_poll_rule room (message t) = falls 3
to_poll_rule room (failure t) = falls 3
to_poll_rule room (block b) = cond (room b) received no_room
to_poll_rule room (other code p) = falls 3

abbrev pub to_general : Reply → HostRule
to_general success = falls 3
to_general (message t) = cond (is_good t) listed (falls 3)
to_general (failure t) = falls 3
to_general (block b) = falls 3
to_general (other code p) = falls 3

abbrev pub to_load : Load → ℕ → (Block → Bool) → Reply → HostRule
to_load poll c room r = cond (c == general) (to_general r) (to_poll_rule room r)
to_load (information b) c room r = to_block_rule r
to_load (command p) c room r = falls 3

abbrev pub in_sequence : Request → (Block → Bool) → Answer → HostRule
in_sequence q room a = cond (a.channel == q.channel) (to_load q.load q.channel room a.reply) (falls 3)

-- the right reset answer, with a good list
abbrev pub is_good_list : Reply → Bool
is_good_list success = false
is_good_list (message t) = is_good t
is_good_list (failure t) = false
is_good_list (block b) = false
is_good_list (other code p) = false

abbrev pub opening_rule : Bool → Answer → HostRule
opening_rule generation a =
    cond a.reset (cond (beq a.toggle generation) (cond (a.channel == general && is_good_list a.reply) opened stale) stale) stale

abbrev pub on_its_way_rule : Request → ℕ → (Block → Bool) → Answer → HostRule
on_its_way_rule q spare room a =
    cond a.reset (out_of_sequence_rule spare) (cond (beq a.toggle q.toggle) (in_sequence q room a) (out_of_sequence_rule spare))

abbrev pub rule_in : State → Host → (Block → Bool) → Answer → HostRule
rule_in fresh h room a = stale
rule_in (opening r) h room a = opening_rule h.generation a
rule_in idle h room a = out_of_sequence_rule h.spare
rule_in (on_its_way q r) h room a = on_its_way_rule q h.spare room a
rule_in down h room a = stale

-- whether a store takes a block on a channel
abbrev pub room_for : Meaning → ℕ → Block → Bool
room_for m c b = granted (put_answer m c b)

abbrev pub host_rule : Host → Meaning → Answer → HostRule
host_rule h inn a = rule_in h.state h (room_for inn a.channel) a

-- HEAR: what each rule does

abbrev pub lowered : ℕ → ℕ
lowered spare = cond (spare == last_spare) spare (pred spare)

abbrev pub list_in : Reply → List ℕ
list_in success = []
list_in (message t) = listed_channels t
list_in (failure t) = []
list_in (block b) = []
list_in (other code p) = []

-- an answer is taken: the list and the mark after it, and what it names
abbrev pub taken : Host → List ℕ → Bool → Word → Bool → Host
taken h list refused word toggle = record { setting = h.setting; state = idle; generation = h.generation; last = toggle; spare = repeats_of h.state; resets = h.resets; poll_list = list; block_refused = refused; submitted = h.submitted; gone = counts word h.gone }

-- the link is open; each reset of its generation but one may still be answered
abbrev pub opened_spare : ℕ → ℕ
opened_spare resets = min (pred resets) last_spare

abbrev pub opened_with : Host → List ℕ → Bool → Host
opened_with h list toggle = record { setting = h.setting; state = idle; generation = not h.generation; last = toggle; spare = opened_spare h.resets; resets = 0; poll_list = list; block_refused = false; submitted = h.submitted; gone = h.gone }

-- a carried block goes into a store, if there is one
abbrev pub stores_in : ℕ → Cargo → Meaning → Meaning
stores_in c empty m = m
stores_in c (holds b) m = put_after m c b

abbrev pub by_hear : HostRule → Answer → Host → Meaning → Meaning → HostStep
by_hear stale a h out inn = stays h out inn
by_hear spare_used a h out inn = record {
  host = record { setting = h.setting; state = h.state; generation = h.generation; last = h.last; spare = lowered h.spare; resets = h.resets; poll_list = h.poll_list; block_refused = h.block_refused; submitted = h.submitted; gone = h.gone };
  out = out;
  inn = inn;
  wrote = nothing;
  word = silent;
}
by_hear opened a h out inn = record { host = opened_with h (list_in a.reply) a.toggle; out = out; inn = inn; wrote = nothing; word = silent }
by_hear confirmed a h out inn = record { host = taken h h.poll_list false (confirm_word h) a.toggle; out = leaves (confirm_word h) out; inn = inn; wrote = nothing; word = confirm_word h }
by_hear block_refused a h out inn = record { host = taken h h.poll_list true silent a.toggle; out = out; inn = inn; wrote = nothing; word = silent }
by_hear nothing_there a h out inn = record { host = taken h h.poll_list false silent a.toggle; out = out; inn = inn; wrote = nothing; word = silent }
by_hear received a h out inn = record { host = taken h h.poll_list false silent a.toggle; out = out; inn = stores_in a.channel (cargo_in a.reply) inn; wrote = nothing; word = silent }
by_hear listed a h out inn = record { host = taken h (list_in a.reply) false silent a.toggle; out = out; inn = inn; wrote = nothing; word = silent }
by_hear no_room a h out inn = stays h out inn
by_hear (falls cause) a h out inn = goes_down h out inn

abbrev pub hear_step : Host → Meaning → Meaning → Answer → HostStep
hear_step h out inn a = by_hear (host_rule h inn a) a h out inn

-- THE CALLS: open, step and timer with a wire buffer of that size
abbrev pub open_call : ℕ → Host → Meaning → Meaning → HostStep
open_call size h out inn = in_wire size h out inn (open_step h out inn)

abbrev pub step_call : ℕ → Host → Meaning → Meaning → HostStep
step_call size h out inn = in_wire size h out inn (step_step h out inn)

abbrev pub timer_call : ℕ → Host → Meaning → Meaning → HostStep
timer_call size h out inn = in_wire size h out inn (timer_step h out inn)
