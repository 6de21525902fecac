-- The rule that a frame meets, as code holds it: with the list, the channel, the block or the cause that it brings.
use Rattle.std.specs.Prelude.{◌≡◌, ◌≢◌, ℕ, Bool, if◌then◌else◌, ⊤, List, Result}
use Rattle.poll.specs.List.{polled}
use Rattle.frame.specs.declared.head.Head.{Head}
use Rattle.frame.specs.declared.frames.TncFrame.{TncFrame}
use Rattle.frame.specs.declared.frames.TncFrame.TheVariants as tnc
use Rattle.frame.specs.Head.{byte_of}
use Rattle.store.specs.Meaning.{Meaning, plain}
use Rattle.ends.specs.declared.refusal.Refusal.{Refusal}
use Rattle.ends.specs.Frames.{Reply, success, message, failure, block, other, Answer, empty, holds, cargo_in}
use Rattle.ends.specs.Host.{Host, State, HostStep, aboard, aboard_on, list_in, room_for, HostRule, stale, spare_used, opened, confirmed, block_refused, nothing_there, received, listed, no_room, falls, host_rule, by_hear}
use Rattle.host.specs.declared.host.rule.Rule.{Rule}
use Rattle.host.specs.declared.host.rule.Rule.TheVariants as rule
use Rattle.host.specs.declared.answer.Heard.{Heard}
use Rattle.host.specs.Cause.{cause_number}
use Rattle.host.specs.Answers.{heard_by, heard_word}

-- the answer that a head and a parsed frame are
abbrev pub reply_shown : TncFrame → Reply
reply_shown tnc.Success = success
reply_shown (tnc.Message p) = message p.now
reply_shown (tnc.List p) = message p.now
reply_shown (tnc.Failure p) = failure p.now
reply_shown (tnc.Status p) = other 3 p.now
reply_shown (tnc.HeaderAlone p) = other 4 p.now
reply_shown (tnc.HeaderFirst p) = other 5 p.now
reply_shown (tnc.Monitored p) = other 6 p.now
reply_shown (tnc.Information p) = block (plain p.now)

abbrev pub answer_with : ℕ → Bool → Bool → Reply → Answer
answer_with c reset toggle reply =
    record { channel = c; reset = reset; toggle = toggle; reply = reply }

abbrev pub answer_shown : Head → TncFrame → Answer
answer_shown h f = answer_with (byte_of h.address) h.reset h.toggle (reply_shown f)

-- the rule by its name: a polled block is received where the incoming store takes it
abbrev pub rule_of : Meaning → Rule → HostRule
rule_of inn rule.Stale = stale
rule_of inn rule.SpareUsed = spare_used
rule_of inn (rule.Opened l) = opened
rule_of inn (rule.Confirmed c) = confirmed
rule_of inn rule.BlockRefused = block_refused
rule_of inn rule.NothingThere = nothing_there
rule_of inn (rule.Polled c p) = if room_for inn c.number (plain p.now) then received else no_room
rule_of inn (rule.Listed l) = listed
rule_of inn (rule.Falls why) = falls (cause_number why)

-- the list or the block that it brings is the frame's
abbrev pub Brings : Rule → Answer → Type 0
Brings (rule.Opened l) a = polled l ≡ list_in a.reply
Brings (rule.Polled c p) a = (a.channel ≡ c.number) × (cargo_in a.reply ≡ holds (plain p.now))
Brings (rule.Listed l) a = polled l ≡ list_in a.reply
Brings r a = ⊤

-- the block that it confirms is the one on its way
abbrev pub Confirms : Rule → State → Type 0
Confirms (rule.Confirmed c) s = (aboard_on s ≡ c.number) × (aboard s ≢ empty)
Confirms r s = ⊤

-- the rule of that name, which brings what each of these answers carries and confirms no block
pub record IsNamed (inn : Meaning) (name : HostRule) (of : Answer → Type 0) (r : Rule) : Type 0 where
  pub rule : rule_of inn r ≡ name
  pub brings : (a : Answer) → of a → Brings r a
  pub confirms : (s : State) → Confirms r s

abbrev pub Carries : List ℕ → Answer → Type 0
Carries text a = a.reply ≡ message text

abbrev pub IsAny : Answer → Type 0
IsAny a = ⊤

-- the rule that a frame meets
pub record IsRule (h : Host) (inn : Meaning) (a : Answer) (r : Rule) : Type 0 where
  pub rule : rule_of inn r ≡ host_rule h inn a
  pub brings : Brings r a
  pub confirms : Confirms r h.state

-- what a rule's step leaves, names and answers
pub record Applied (r : HostRule) (s : HostStep) (host : Host) (out inn : Meaning)
    (answer : Result Heard Refusal) : Type 0 where
  pub host_is : host ≡ s.host
  pub out_is : out ≡ s.out
  pub inn_is : inn ≡ s.inn
  pub word_is : heard_word answer ≡ s.word
  pub answer_is : answer ≡ heard_by r s.word

-- the same of a rule as code holds it, whatever frame met it that has this toggle and brings what it holds
abbrev pub Applies : Rule → Bool → Host → Meaning → Meaning → Host → Meaning → Meaning
    → Result Heard Refusal → Type 0
Applies r toggle h out inn host_after out_after inn_after answer =
    (c : ℕ) (reset : Bool) (reply : Reply) → Brings r (answer_with c reset toggle reply)
    → Applied (rule_of inn r) (by_hear (rule_of inn r) (answer_with c reset toggle reply) h out inn)
    host_after out_after inn_after answer
