-- A host with its stores as a side of the link, and what its answers say of what was sent and handed out.
use Rattle.std.specs.Prelude.{◌≡◌, ◌≤◌, ℕ, Ok, Err, Result}
use Rattle.frame.specs.declared.form.Direction.TheVariants.{FromTnc}
use Rattle.reader.specs.Read.{fresh}
use Rattle.store.specs.Meaning.{Meaning, empty}
use Rattle.ends.specs.declared.refusal.Refusal.{Refusal}
use Rattle.ends.specs.Ear.{heard_by}
use Rattle.ends.specs.Limits.{most_repeats}
use Rattle.ends.specs.Host.{new_host}
use Rattle.law.specs.Runs.{Limits, begin}
use Rattle.law.specs.Sides.{HostSide, host_side}
use Rattle.host.specs.declared.answer.Stepped.{Stepped}
use Rattle.host.specs.declared.answer.Timed.{Timed}
use Rattle.host.specs.declared.host.Host as kept
use Rattle.host.specs.Model.{host_of}
use Rattle.host.specs.Answers.{timed_length}

abbrev pub side : kept.Host → Meaning → Meaning → HostSide
side h out inn = record { host = host_of h.link; ear = heard_by h.ear; out = out; inn = inn }

-- how many bytes a step and a timer have sent, by what they answered
abbrev pub step_length : Result Stepped Refusal → ℕ
step_length (Ok s) = s.sent
step_length (Err e) = 0

abbrev pub timer_length : Result Timed Refusal → ℕ
timer_length (Ok t) = timed_length t
timer_length (Err e) = 0

-- a host that was made with this setting: with empty stores it is the side with which a run begins
pub record IsNew (repeats : ℕ) (h : kept.Host) : Type 0 where
  pub few : repeats ≤ most_repeats
  pub link_is : host_of h.link ≡ new_host repeats
  pub ear_is : heard_by h.ear ≡ fresh FromTnc
  pub begins : (l : Limits) → host_side (begin repeats l) ≡ side h (empty l.host_out) (empty l.host_in)
