-- What the TNC's calls answer: one definition gives every rule its place, and one every answer its values.
use Rattle.std.specs.Prelude.{ℕ, Bool, cond, List, [], ◌∷◌, Some, None, Ok, Err, Option, Result, ◌==◌}
use Rattle.frame.specs.Frame.{general}
use Rattle.store.specs.Meaning.{Block, Meaning}
use Rattle.ends.specs.declared.refusal.Refusal.{Refusal}
use Rattle.ends.specs.declared.refusal.Refusal.TheVariants.{FlaggedFrame, BeforeReset}
use Rattle.ends.specs.Frames.{Load, poll, information, command, Request, Reply, success, failure, Answer, cargo_of, Written, nothing, one}
use Rattle.ends.specs.Blocks.{Word, silent}
use Rattle.ends.specs.Named.{went_by, word_of}
use Rattle.ends.specs.Sent.{answer_length}
use Rattle.ends.specs.Tnc.{Tnc, TncRule, flagged, early, resets, again, accepts, TncStep, no_place, has_place, out_after, tnc_rule, tnc_step}
use Rattle.tnc.specs.declared.answer.Rule.{Rule}
use Rattle.tnc.specs.declared.answer.Rule.TheVariants.{Reset, HeldAgain, BlockTaken, NoPlace, NoChannel, BlockGiven, NothingWaiting, ListGiven, Unknown}
use Rattle.tnc.specs.declared.answer.Heard.{Heard}

-- a channel's poll, by what waits there; a block for a channel, by whether it finds its place, with what is answered
abbrev pub offer_rule : List Block → Rule
offer_rule [] = NothingWaiting
offer_rule (b ∷ blocks) = BlockGiven

abbrev pub take_rule : Bool → Rule
take_rule place = cond place BlockTaken NoPlace

abbrev pub take_reply : Bool → Reply
take_reply place = cond place success (failure no_place)

-- the rule that an accepted frame meets, by what it asks, its channel, whether a block finds its place, and what waits there
abbrev pub accept_rule : Load → ℕ → Bool → List Block → Rule
accept_rule poll c place waiting = cond (c == general) ListGiven (offer_rule waiting)
accept_rule (information b) c place waiting = cond (c == general) NoChannel (take_rule place)
accept_rule (command p) c place waiting = Unknown

abbrev pub accept_rule_of : Request → Tnc → Meaning → Meaning → Rule
accept_rule_of q t out inn = accept_rule q.load q.channel (has_place inn q.channel (cargo_of q.load)) ((out_after accepts t out).waiting q.channel)

-- every rule and refusal of a frame
abbrev pub rule_met : TncRule → Request → Tnc → Meaning → Meaning → Result Rule Refusal
rule_met flagged q t out inn = Err FlaggedFrame
rule_met early q t out inn = Err BeforeReset
rule_met resets q t out inn = Ok Reset
rule_met again q t out inn = Ok HeldAgain
rule_met accepts q t out inn = Ok (accept_rule_of q t out inn)

-- the rule with what the step says: the block named, and the length of what was written
abbrev pub written_length : Written Answer → ℕ
written_length nothing = 0
written_length (one a) = answer_length a

abbrev pub heard_as : Rule → TncStep → Heard
heard_as rule s = record { rule = rule; went = went_by s.word; sent = written_length s.wrote }

abbrev pub with_step : Result Rule Refusal → TncStep → Result Heard Refusal
with_step (Ok rule) s = Ok (heard_as rule s)
with_step (Err e) s = Err e

-- what a frame is answered
abbrev pub frame_answer : Tnc → Meaning → Meaning → Request → Result Heard Refusal
frame_answer t out inn q = with_step (rule_met (tnc_rule t q) q t out inn) (tnc_step t out inn q)

-- the word that an answer says
abbrev pub byte_word : Result (Option Heard) Refusal → Word
byte_word (Ok None) = silent
byte_word (Ok (Some h)) = word_of h.went
byte_word (Err e) = silent
