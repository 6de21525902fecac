-- What hearing a byte leaves and answers.
use Rattle.std.specs.Prelude.{ℕ, List, Some, None, Ok, Err, Option, Result}
use Rattle.reader.specs.Read.{Next}
use Rattle.store.specs.Meaning.{Meaning}
use Rattle.ends.specs.declared.refusal.Refusal.{Refusal}
use Rattle.ends.specs.Frames.{Answer, answer_read}
use Rattle.ends.specs.Heard.{body_heard, or_fault}
use Rattle.ends.specs.Host.{Host, HostStep, stays, host_rule, hear_step}
use Rattle.host.specs.declared.answer.Heard.{Heard}
use Rattle.host.specs.Answers.{heard_by}

-- what the body that passed, if one did, leaves
abbrev pub step_on : Option (List ℕ) → Host → Meaning → Meaning → HostStep
step_on None h out inn = stays h out inn
step_on (Some body) h out inn = hear_step h out inn (answer_read body)

abbrev pub hear_call : Next → Host → Meaning → Meaning → HostStep
hear_call n h out inn = step_on (body_heard n) h out inn

-- what is answered to a frame; to the body that passed, if one did; and to the byte
abbrev pub answer_heard : Host → Meaning → Meaning → Answer → Result Heard Refusal
answer_heard h out inn a = heard_by (host_rule h inn a) (hear_step h out inn a).word

-- the answer to a frame, as the answer to the byte that ended it
abbrev pub a_frame : Result Heard Refusal → Result (Option Heard) Refusal
a_frame (Ok h) = Ok (Some h)
a_frame (Err e) = Err e

abbrev pub body_answer : Option (List ℕ) → Host → Meaning → Meaning → Result (Option Heard) Refusal
body_answer None h out inn = Ok None
body_answer (Some body) h out inn = a_frame (answer_heard h out inn (answer_read body))

abbrev pub hear_answer : Next → Host → Meaning → Meaning → Result (Option Heard) Refusal
hear_answer n h out inn = or_fault n.says (body_answer (body_heard n) h out inn)
