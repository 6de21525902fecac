-- A TNC with its stores as a side of the link, and how much its hear has sent.
use Rattle.std.specs.Prelude.{ℕ, Some, None, Ok, Err, Option, Result}
use Rattle.store.specs.Meaning.{Meaning}
use Rattle.ends.specs.declared.refusal.Refusal.{Refusal}
use Rattle.ends.specs.Ear.{heard_by}
use Rattle.law.specs.Sides.{TncSide}
use Rattle.tnc.specs.declared.answer.Heard.{Heard}
use Rattle.tnc.specs.declared.tnc.Tnc as kept
use Rattle.tnc.specs.Model.{tnc_of}

abbrev pub side : kept.Tnc → Meaning → Meaning → TncSide
side t out inn = record { tnc = tnc_of t.link; ear = heard_by t.ear; out = out; inn = inn }

abbrev pub hear_length : Result (Option Heard) Refusal → ℕ
hear_length (Ok None) = 0
hear_length (Ok (Some h)) = h.sent
hear_length (Err e) = 0
