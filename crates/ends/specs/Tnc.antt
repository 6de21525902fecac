-- The TNC end: what it keeps, and its rules. Each call's contract cites these, and runs of the link are made of them.
use Rattle.std.specs.Prelude.{ℕ, zero, suc, Bool, true, false, cond, ◌&&◌, List, [], ◌∷◌, ◌++◌, ◌==◌}
use Rattle.std.specs.Bool.{beq}
use Rattle.poll.specs.Channel.{channels}
use Rattle.poll.specs.List.{list_of}
use Rattle.frame.specs.Frame.{general}
use Rattle.store.specs.Meaning.{Block, Meaning}
use Rattle.ends.specs.Frames.{Load, poll, information, command, Request, Reply, success, message, failure, block, Answer, Cargo, empty, holds, cargo_of, cargo_in, Written, nothing, one}
use Rattle.ends.specs.Blocks.{Word, silent, confirm_of, doubt_of, leaves, one_more_counted, counts}
use Rattle.ends.specs.Host.{room_for, stores_in}

-- WHAT IT KEEPS

-- ready: a reset was heard; last: the toggle of the last frame accepted or of the last reset; held: the answer to it; submitted and gone: counts by channel
pub record Tnc : Type 0 where
  pub ready : Bool
  pub last : Bool
  pub held : Answer
  pub submitted : ℕ → ℕ
  pub gone : ℕ → ℕ

-- the answer that is held before the first reset: none that is ever given
abbrev pub no_answer : Answer
no_answer = record { channel = general; reset = false; toggle = false; reply = success }

abbrev pub new_tnc : Tnc
new_tnc = record { ready = false; last = false; held = no_answer; submitted = λ c. 0; gone = λ c. 0 }

-- after submissions: only their counts are others
abbrev pub tnc_counts : Tnc → (ℕ → ℕ) → Tnc
tnc_counts t s = record { ready = t.ready; last = t.last; held = t.held; submitted = s; gone = t.gone }

-- what hearing a frame leaves of the TNC and its two stores, what it writes, and the block that its answer names
pub record TncStep : Type 0 where
  pub tnc : Tnc
  pub out : Meaning
  pub inn : Meaning
  pub wrote : Written Answer
  pub word : Word

abbrev pub unmoved : Tnc → Meaning → Meaning → TncStep
unmoved t out inn = record { tnc = t; out = out; inn = inn; wrote = nothing; word = silent }

-- THE RULE THAT A FRAME MEETS

-- flagged: refusal 7; early: refusal 8; again: the held answer once more
pub data TncRule : Type 0 where
  flagged : TncRule
  early : TncRule
  resets : TncRule
  again : TncRule
  accepts : TncRule

abbrev pub is_poll : Load → Bool
is_poll poll = true
is_poll (information b) = false
is_poll (command p) = false

abbrev pub is_general_poll : Request → Bool
is_general_poll q = q.channel == general && is_poll q.load

abbrev pub tnc_rule : Tnc → Request → TncRule
tnc_rule t q = cond q.reset (cond (is_general_poll q) resets flagged) (cond t.ready (cond (beq q.toggle t.last) again accepts) early)

-- WHAT EACH RULE DOES

-- the block in the held answer: doubtful at a reset, confirmed where a frame is accepted
abbrev pub held_number : Tnc → ℕ
held_number t = one_more_counted (t.gone t.held.channel)

abbrev pub tnc_word : TncRule → Tnc → Word
tnc_word flagged t = silent
tnc_word early t = silent
tnc_word resets t = doubt_of t.held.channel (held_number t) (cargo_in t.held.reply)
tnc_word again t = silent
tnc_word accepts t = confirm_of t.held.channel (held_number t) (cargo_in t.held.reply)

-- "NO PLACE", "NO CHANNEL", "UNKNOWN"
abbrev pub no_place : List ℕ
no_place = 78 ∷ 79 ∷ 32 ∷ 80 ∷ 76 ∷ 65 ∷ 67 ∷ 69 ∷ []

abbrev pub no_channel : List ℕ
no_channel = 78 ∷ 79 ∷ 32 ∷ 67 ∷ 72 ∷ 65 ∷ 78 ∷ 78 ∷ 69 ∷ 76 ∷ []

abbrev pub unknown : List ℕ
unknown = 85 ∷ 78 ∷ 75 ∷ 78 ∷ 79 ∷ 87 ∷ 78 ∷ []

-- which channels wait, and the list that names them, ascending
abbrev pub is_some : List Block → Bool
is_some [] = false
is_some (b ∷ blocks) = true

unfoldable pub waiting_to : ℕ → (ℕ → List Block) → List Bool
waiting_to zero waiting = []
waiting_to (suc n) waiting = waiting_to n waiting ++ is_some (waiting n) ∷ []

abbrev pub list_for : Meaning → List ℕ
list_for m = list_of (waiting_to channels m.waiting)

-- the first block of a channel, or nothing
abbrev pub offer : List Block → Reply
offer [] = success
offer (b ∷ blocks) = block b

-- whether a carried block finds its place
abbrev pub has_place : Meaning → ℕ → Cargo → Bool
has_place m c empty = false
has_place m c (holds b) = room_for m c b

-- out: the outgoing store once the held block has left it
abbrev pub reply_to : Load → ℕ → Bool → Meaning → Reply
reply_to poll c place out = cond (c == general) (message (list_for out)) (offer (out.waiting c))
reply_to (information b) c place out = cond (c == general) (failure no_channel) (cond place success (failure no_place))
reply_to (command p) c place out = failure unknown

-- an answer has the request's channel, flag and toggle
abbrev pub answer_to : Request → Reply → Answer
answer_to q r = record { channel = q.channel; reset = q.reset; toggle = q.toggle; reply = r }

-- the outgoing store after the rule, and the answer to an accepted frame
abbrev pub out_after : TncRule → Tnc → Meaning → Meaning
out_after rule t out = leaves (tnc_word rule t) out

abbrev pub accepted_answer : Request → Tnc → Meaning → Meaning → Answer
accepted_answer q t out inn = answer_to q (reply_to q.load q.channel (has_place inn q.channel (cargo_of q.load)) (out_after accepts t out))

abbrev pub reset_answer : Request → Tnc → Meaning → Answer
reset_answer q t out = answer_to q (message (list_for (out_after resets t out)))

abbrev pub holding : Tnc → Request → Answer → TncRule → Tnc
holding t q a rule = record { ready = true; last = q.toggle; held = a; submitted = t.submitted; gone = counts (tnc_word rule t) t.gone }

abbrev pub by_tnc : TncRule → Request → Tnc → Meaning → Meaning → TncStep
by_tnc flagged q t out inn = unmoved t out inn
by_tnc early q t out inn = unmoved t out inn
by_tnc resets q t out inn = record { tnc = holding t q (reset_answer q t out) resets; out = out_after resets t out; inn = inn; wrote = one (reset_answer q t out); word = tnc_word resets t }
by_tnc again q t out inn = record { tnc = t; out = out; inn = inn; wrote = one t.held; word = silent }
by_tnc accepts q t out inn = record { tnc = holding t q (accepted_answer q t out inn) accepts; out = out_after accepts t out; inn = stores_in q.channel (cargo_of q.load) inn; wrote = one (accepted_answer q t out inn); word = tnc_word accepts t }

abbrev pub tnc_step : Tnc → Meaning → Meaning → Request → TncStep
tnc_step t out inn q = by_tnc (tnc_rule t q) q t out inn
