-- The note that a call hands out, or hands back.
use Rattle.std.specs.Prelude.{ℕ, Some, None, Ok, Err, Option, Result}
use Rattle.ends.specs.declared.refusal.Refusal.{Refusal}
use Rattle.host.specs.declared.note.DoubtNote.{DoubtNote}
use Rattle.host.specs.declared.answer.Timed.{Timed}
use Rattle.host.specs.declared.answer.Timed.TheVariants as timed
use Rattle.host.specs.declared.answer.Heard.{Heard}
use Rattle.host.specs.declared.answer.Heard.TheVariants as heard
use Rattle.host.specs.declared.answer.Returned.{Returned}
use Rattle.link.specs.declared.event.Event.{Event}
use Rattle.link.specs.declared.event.Event.TheVariants as event

abbrev pub timed_note : Result Timed Refusal → Option DoubtNote
timed_note (Ok (timed.Down f)) = f.doubt
timed_note r = None

abbrev pub rule_note : Heard → Option DoubtNote
rule_note (heard.Down f) = f.doubt
rule_note h = None

abbrev pub heard_note : Result (Option Heard) Refusal → Option DoubtNote
heard_note (Ok (Some h)) = rule_note h
heard_note r = None

abbrev pub again_note : Result ℕ Returned → Option DoubtNote
again_note (Ok n) = None
again_note (Err r) = Some r.note

abbrev pub note_of : Event → Option DoubtNote
note_of (event.HostTimer r) = timed_note r
note_of (event.HostHear byte r) = heard_note r
note_of (event.HostSubmitAgain c n b r) = again_note r
note_of e = None
