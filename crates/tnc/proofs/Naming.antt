-- What an answer names is the word of the step.
use Rattle.std.proofs.Common.{◌≡◌, ℕ, Bool, true, false, cond, List, Some, None, Ok, Err, Option, Result, ltb, refl}
use Rattle.wire.specs.Wire.{longest_wire}
use Rattle.reader.specs.declared.fault.Fault.{Fault}
use Rattle.reader.specs.declared.state.Heard.{Heard}
use Rattle.reader.specs.Read.{Next, passed}
use Rattle.reader.specs.Read as reader
use Rattle.store.specs.Meaning.{Meaning}
use Rattle.ends.specs.declared.refusal.Refusal.TheVariants.{ShortWire}
use Rattle.ends.specs.Frames.{Request, request_read}
use Rattle.ends.specs.Blocks.{Word, silent, confirms, doubts}
use Rattle.ends.specs.Named.{went_by, word_of}
use Rattle.ends.specs.Heard.{body_in, or_fault}
use Rattle.ends.specs.Tnc.{Tnc, TncRule, flagged, early, resets, again, accepts, unmoved, tnc_rule, by_tnc}
use Rattle.tnc.specs.Answers.{rule_met, with_step, byte_word}
use Rattle.tnc.specs.Hear.{step_on, hear_call, a_frame, body_answer, hear_answer}

word_back : (w : Word) → word_of (went_by w) ≡ w
word_back silent = refl
word_back (confirms c n) = refl
word_back (doubts c n) = refl

rule_named : (r : TncRule) (q : Request) (t : Tnc) (out inn : Meaning) → byte_word (a_frame (with_step (rule_met r q t out inn) (by_tnc r q t out inn))) ≡ (by_tnc r q t out inn).word
rule_named flagged q t out inn = refl
rule_named early q t out inn = refl
rule_named resets q t out inn = word_back (by_tnc resets q t out inn).word
rule_named again q t out inn = refl
rule_named accepts q t out inn = word_back (by_tnc accepts q t out inn).word

module _ (t : Tnc) (out inn : Meaning) where
  body_named : (o : Option (List ℕ)) → byte_word (body_answer o t out inn) ≡ (step_on o t out inn).word
  body_named None = refl
  body_named (Some body) = let q = request_read body in rule_named (tnc_rule t q) q t out inn

  heard_named : (r : Result Heard Fault) (m : reader.Meaning) → byte_word (or_fault r (body_answer (body_in r m) t out inn)) ≡ (step_on (body_in r m) t out inn).word
  heard_named (Ok h) m = body_named (body_in (Ok h) m)
  heard_named (Err fault) m = refl

  pub named_is : (size : ℕ) (n : Next) → byte_word (hear_answer size n t out inn) ≡ (hear_call size n t out inn).word
  named_is size n =
      elim (ltb size longest_wire) as (λ (b : Bool). byte_word (cond b (Err ShortWire) (or_fault n.says (body_answer (body_in n.says n.then) t out inn))) ≡ (cond b (unmoved t out inn) (step_on (body_in n.says n.then) t out inn)).word) [
        | true ↦ refl
        | false ↦ heard_named n.says n.then
      ]
