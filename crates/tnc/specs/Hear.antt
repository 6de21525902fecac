-- What hearing a byte leaves and answers, with a wire buffer of so many bytes.
use Rattle.std.specs.Prelude.{ℕ, cond, List, Some, None, Ok, Err, Option, Result, nat_lt}
use Rattle.wire.specs.Wire.{longest_wire}
use Rattle.reader.specs.Read.{Next}
use Rattle.store.specs.Meaning.{Meaning}
use Rattle.ends.specs.declared.refusal.Refusal.{Refusal}
use Rattle.ends.specs.declared.refusal.Refusal.TheVariants.{ShortWire}
use Rattle.ends.specs.Frames.{request_read}
use Rattle.ends.specs.Heard.{body_heard, or_fault}
use Rattle.ends.specs.Tnc.{Tnc, TncStep, unmoved, tnc_step}
use Rattle.tnc.specs.declared.answer.Heard.{Heard}
use Rattle.tnc.specs.Answers.{frame_answer}

-- what the body that passed, if one did, leaves
abbrev pub step_on : Option (List ℕ) → Tnc → Meaning → Meaning → TncStep
step_on None t out inn = unmoved t out inn
step_on (Some body) t out inn = tnc_step t out inn (request_read body)

-- a buffer that is too short leaves the byte unheard
abbrev pub hear_call : ℕ → Next → Tnc → Meaning → Meaning → TncStep
hear_call size n t out inn = cond (nat_lt size longest_wire) (unmoved t out inn) (step_on (body_heard n) t out inn)

-- the answer to a frame, as the answer to the byte that ended it
abbrev pub a_frame : Result Heard Refusal → Result (Option Heard) Refusal
a_frame (Ok h) = Ok (Some h)
a_frame (Err e) = Err e

-- what is answered to the body that passed, if one did; and to the byte
abbrev pub body_answer : Option (List ℕ) → Tnc → Meaning → Meaning → Result (Option Heard) Refusal
body_answer None t out inn = Ok None
body_answer (Some body) t out inn = a_frame (frame_answer t out inn (request_read body))

abbrev pub hear_answer : ℕ → Next → Tnc → Meaning → Meaning → Result (Option Heard) Refusal
hear_answer size n t out inn = cond (nat_lt size longest_wire) (Err ShortWire) (or_fault n.says (body_answer (body_heard n) t out inn))
