-- Every list of the ten calls, on two ends, their readers, four stores and two lines.
use Rattle.std.specs.Prelude.{◌≡◌, ℕ, suc, ◌<◌, ◌≤◌, Bool, true, false, if◌then◌else◌, List, []}
use Rattle.std.specs.Prelude.{◌∷◌, ◌++◌, length, Some, None, Option, nat_lt, slice_index_or, ⊤}
use Rattle.frame.specs.declared.form.Direction.TheVariants.{FromHost, FromTnc}
use Rattle.frame.specs.Frame.{general}
use Rattle.wire.specs.Wire.{longest_wire}
use Rattle.reader.specs.Read.{hears}
use Rattle.reader.specs.Read as reader
use Rattle.store.specs.Meaning.{Block, Meaning, empty}
use Rattle.store.specs.Rules.{copy_source}
use Rattle.store.specs.Calls.{shown_by}
use Rattle.ends.specs.Frames.{poll, Request, Answer, request_body, answer_body, request_read}
use Rattle.ends.specs.Frames.{answer_read, Written, nothing, one}
use Rattle.ends.specs.Blocks.{changed, Word, silent, confirms, doubts, granted, submit_answer}
use Rattle.ends.specs.Blocks.{submit_counts, submit_store, collect_store}
use Rattle.ends.specs.Heard.{body_heard}
use Rattle.ends.specs.Host.{Host, new_host, host_counts, HostStep, Sending, sends, sends_again}
use Rattle.ends.specs.Host.{open_rule, step_rule, timer_rule, open_step, step_step, timer_step}
use Rattle.ends.specs.Host.{hear_step}
use Rattle.ends.specs.Tnc.{Tnc, new_tnc, tnc_counts, no_answer, TncStep, tnc_step}

-- WHAT A RUN KEEPS

-- what a sender's answers named, in order of naming: the numbers of blocks
pub data Named : Type 0 where
  confirmed : ℕ → Named
  doubtful : ℕ → Named

-- the history of one way, by channel: the submissions, what their sender named, and what the
-- receiver's collects handed out
pub record Way : Type 0 where
  pub submitted : ℕ → List Block
  pub named : ℕ → List Named
  pub collected : ℕ → List Block

-- the two ends with their readers, the four stores by their meaning, and what has happened:
-- up, dn: all frames that the host, the TNC has written; up_at, dn_at: the place of the last that
-- passed the other end's reader; up_next, dn_next: the place after it; to_tnc, to_host: the two
-- ways;
-- tries: the granted timers that wrote a frame again since the granted step or open that sent it
pub record World : Type 0 where
  pub host : Host
  pub host_reader : reader.Meaning
  pub tnc : Tnc
  pub tnc_reader : reader.Meaning
  pub host_out : Meaning
  pub host_in : Meaning
  pub tnc_out : Meaning
  pub tnc_in : Meaning
  pub up : List Request
  pub dn : List Answer
  pub up_at : ℕ
  pub dn_at : ℕ
  pub up_next : ℕ
  pub dn_next : ℕ
  pub to_tnc : Way
  pub to_host : Way
  pub tries : ℕ

-- the limits of the four stores
pub record Limits : Type 0 where
  pub host_out : ℕ
  pub host_in : ℕ
  pub tnc_out : ℕ
  pub tnc_in : ℕ

abbrev pub no_way : Way
no_way = record { submitted = λ c. []; named = λ c. []; collected = λ c. [] }

-- two ends as they are made, and empty stores
abbrev pub begin : ℕ → Limits → World
begin setting l = record {
  host = new_host setting;
  host_reader = reader.fresh FromTnc;
  tnc = new_tnc;
  tnc_reader = reader.fresh FromHost;
  host_out = empty l.host_out;
  host_in = empty l.host_in;
  tnc_out = empty l.tnc_out;
  tnc_in = empty l.tnc_in;
  up = [];
  dn = [];
  up_at = 0;
  dn_at = 0;
  up_next = 0;
  dn_next = 0;
  to_tnc = no_way;
  to_host = no_way;
  tries = 0;
}

-- THE TEN CALLS

-- With their arguments: the length of a wire or block buffer, a byte, a channel, a block, a note's
-- number. The last argument of a hear is the place, among the frames that the other end has
-- written, of the frame that passes with this byte, if one does; no code holds it.
pub data Call : Type 0 where
  host_open : ℕ → Call
  host_step : ℕ → Call
  host_timer : ℕ → Call
  host_hear : ℕ → ℕ → Call
  host_submit : ℕ → Block → Call
  host_submit_again : ℕ → ℕ → Block → Call
  host_collect : ℕ → ℕ → Call
  tnc_hear : ℕ → ℕ → ℕ → Call
  tnc_submit : ℕ → Block → Call
  tnc_collect : ℕ → ℕ → Call

-- WHAT A CALL DOES

-- the body that passes a reader with a byte
abbrev pub host_passes : ℕ → World → Option (List ℕ)
host_passes byte w = body_heard (hears w.host_reader byte)

-- a wire buffer that is too short leaves the byte unheard
abbrev pub tnc_passes : ℕ → ℕ → World → Option (List ℕ)
tnc_passes size byte w =
    if nat_lt size longest_wire then None else body_heard (hears w.tnc_reader byte)

abbrev pub with_written : {A : Type 0} → List A → Written A → List A
with_written l nothing = l
with_written l (one f) = l ++ f ∷ []

-- the history after a word of the sender
abbrev pub add_name : Named → List Named → List Named
add_name x l = l ++ x ∷ []

abbrev pub names : Word → (ℕ → List Named) → ℕ → List Named
names silent x = x
names (confirms c n) x = changed true c (add_name (confirmed n)) x
names (doubts c n) x = changed true c (add_name (doubtful n)) x

abbrev pub naming : Word → Way → Way
naming word y = record y { named = names word y.named }

-- after a granted submission, and after a granted collect
abbrev pub submitting : Bool → ℕ → Block → Way → Way
submitting g c b y = record y { submitted = changed g c (λ l. l ++ b ∷ []) y.submitted }

abbrev pub collecting : Bool → ℕ → List Block → Way → Way
collecting g c bs y = record y { collected = changed g c (λ l. l ++ bs) y.collected }

-- a call of the host that is neither submit nor collect
abbrev pub after_host : HostStep → ℕ → ℕ → ℕ → World → World
after_host s dn_at dn_next tries w = record w {
  host = s.host;
  host_out = s.out;
  host_in = s.inn;
  up = with_written w.up s.wrote;
  dn_at = dn_at;
  dn_next = dn_next;
  to_tnc = naming s.word w.to_tnc;
  tries = tries;
}

-- the TNC has heard the frame at a place
abbrev pub after_tnc : TncStep → ℕ → World → World
after_tnc s i w = record w {
  tnc = s.tnc;
  tnc_out = s.out;
  tnc_in = s.inn;
  dn = with_written w.dn s.wrote;
  up_at = i;
  up_next = suc i;
  to_host = naming s.word w.to_host;
}

abbrev pub with_readers : reader.Meaning → reader.Meaning → World → World
with_readers hr tr w = record w { host_reader = hr; tnc_reader = tr }

abbrev pub host_hears : Option (List ℕ) → ℕ → World → World
host_hears None i w = w
host_hears (Some body) i w =
    after_host (hear_step w.host w.host_out w.host_in (answer_read body)) i (suc i) w.tries w

abbrev pub tnc_hears : Option (List ℕ) → ℕ → World → World
tnc_hears None i w = w
tnc_hears (Some body) i w =
    after_tnc (tnc_step w.tnc w.tnc_out w.tnc_in (request_read body)) i w

-- what submit and collect do
abbrev pub host_submits : ℕ → Block → World → World
host_submits c b w = record w {
  host = host_counts w.host (submit_counts w.host.submitted w.host_out c b);
  host_out = submit_store w.host.submitted w.host_out c b;
  to_tnc = submitting (granted (submit_answer w.host.submitted w.host_out c b)) c b w.to_tnc;
}

abbrev pub tnc_submits : ℕ → Block → World → World
tnc_submits c b w = record w {
  tnc = tnc_counts w.tnc (submit_counts w.tnc.submitted w.tnc_out c b);
  tnc_out = submit_store w.tnc.submitted w.tnc_out c b;
  to_host = submitting (granted (submit_answer w.tnc.submitted w.tnc_out c b)) c b w.to_host;
}

-- the history after a collect from a store
abbrev pub collected_from : Meaning → ℕ → ℕ → Way → Way
collected_from inn c size y =
    collecting (granted (copy_source inn c size)) c (shown_by (copy_source inn c size)) y

abbrev pub host_collects : ℕ → ℕ → World → World
host_collects c size w = record w {
  host_in = collect_store w.host_in c size;
  to_host = collected_from w.host_in c size w.to_host;
}

abbrev pub tnc_collects : ℕ → ℕ → World → World
tnc_collects c size w = record w {
  tnc_in = collect_store w.tnc_in c size;
  to_tnc = collected_from w.tnc_in c size w.to_tnc;
}

-- tries begin again where a frame is sent, and grow where it is sent again
abbrev pub tries_from : Sending → ℕ → ℕ
tries_from sends k = 0
tries_from s k = k

abbrev pub tries_more : Sending → ℕ → ℕ
tries_more sends_again k = suc k
tries_more s k = k

-- a call with a wire buffer that is too short leaves all
abbrev pub in_buffer : ℕ → World → World → World
in_buffer size w v = if nat_lt size longest_wire then w else v

abbrev pub opens : World → World
opens w =
    after_host (open_step w.host w.host_out w.host_in) w.dn_at w.dn_next
    (tries_from (open_rule w.host.state) w.tries) w

abbrev pub steps : World → World
steps w =
    after_host (step_step w.host w.host_out w.host_in) w.dn_at w.dn_next
    (tries_from (step_rule w.host.state) w.tries) w

abbrev pub times : World → World
times w =
    after_host (timer_step w.host w.host_out w.host_in) w.dn_at w.dn_next
    (tries_more (timer_rule w.host.setting w.host.state) w.tries) w

abbrev pub act : Call → World → World
act (host_open size) w = in_buffer size w (opens w)
act (host_step size) w = in_buffer size w (steps w)
act (host_timer size) w = in_buffer size w (times w)
act (host_hear byte i) w =
    with_readers (hears w.host_reader byte).then w.tnc_reader
    (host_hears (host_passes byte w) i w)
act (host_submit c b) w = host_submits c b w
act (host_submit_again c n b) w = host_submits c b w
act (host_collect c size) w = host_collects c size w
act (tnc_hear size byte i) w =
    in_buffer size w
    (with_readers w.host_reader (hears w.tnc_reader byte).then
    (tnc_hears (tnc_passes size byte w) i w))
act (tnc_submit c b) w = tnc_submits c b w
act (tnc_collect c size) w = tnc_collects c size w

-- THE LINES

abbrev pub no_request : Request
no_request = record { channel = general; reset = false; toggle = false; load = poll }

abbrev pub request_at : World → ℕ → Request
request_at w i = slice_index_or w.up i no_request

abbrev pub answer_at : World → ℕ → Answer
answer_at w i = slice_index_or w.dn i no_answer

-- the line rule: whatever body passes a reader is that of a frame which the other end has written,
-- and places never go back
abbrev pub Allowed : Call → World → Type 0
Allowed (host_hear byte i) w = (body : List ℕ) → host_passes byte w ≡ Some body
    → (w.dn_at ≤ i) × (i < length w.dn) × (body ≡ answer_body (answer_at w i))
Allowed (tnc_hear size byte i) w = (body : List ℕ) → tnc_passes size byte w ≡ Some body
    → (w.up_at ≤ i) × (i < length w.up) × (body ≡ request_body (request_at w i))
Allowed c w = ⊤

-- the lines repeat nothing in this call: the place lies behind that of the last that passed
abbrev pub NotRepeated : Call → World → Type 0
NotRepeated (host_hear byte i) w = (body : List ℕ) → host_passes byte w ≡ Some body
    → w.dn_next ≤ i
NotRepeated (tnc_hear size byte i) w = (body : List ℕ) → tnc_passes size byte w ≡ Some body
    → w.up_next ≤ i
NotRepeated c w = ⊤

-- RUNS

-- the worlds that lists of calls reach
pub data Run (setting : ℕ) (l : Limits) : World → Type 0 where
  start : Run setting l (begin setting l)
  after : {w : World} → Run setting l w → (c : Call) → Allowed c w → Run setting l (act c w)

-- in all of the run the lines have repeated nothing
abbrev pub RepeatsNothing : {setting : ℕ} {l : Limits} {w : World} → Run setting l w → Type 0
RepeatsNothing start = ⊤
RepeatsNothing (after {w = w} r c ok) = RepeatsNothing r × NotRepeated c w
