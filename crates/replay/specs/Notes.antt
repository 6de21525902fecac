-- The notes that are not spent.
use Rattle.std.specs.Prelude.{ℕ, ◌+◌, ◌-◌, ◌^◌, ◌==◌, min, List, [], ◌∷◌, ◌++◌, Option, Some, None, Result, Ok, Err, find, position, remove}
use Rattle.ends.specs.declared.refusal.Refusal.{Refusal}
use Rattle.host.specs.declared.note.DoubtNote.{DoubtNote}
use Rattle.host.specs.declared.answer.Timed.{Timed}
use Rattle.host.specs.declared.answer.Timed.TheVariants as timed
use Rattle.host.specs.declared.answer.Heard.{Heard}
use Rattle.host.specs.declared.answer.Heard.TheVariants as heard
use Rattle.replay.specs.declared.notes.Kept.{Kept}
use Rattle.replay.specs.declared.notes.Notes.{Notes}

-- how many notes were handed out, and those that are not spent, the oldest first
pub record Unspent : Type 0 where
  pub handed : ℕ
  pub kept : List Kept

abbrev pub unspent_of : Notes → Unspent
unspent_of n = record { handed = n.handed; kept = n.kept.items }

-- the number that the next note gets
abbrev pub next_number : Unspent → ℕ
next_number u = min (u.handed + 1) (2 ^ 64 - 1)

-- a note that is handed out now, if one is, is kept as the youngest
abbrev pub with_note : Option DoubtNote → Unspent → Unspent
with_note None u = u
with_note (Some d) u = record {
  handed = next_number u;
  kept = u.kept ++ record { number = next_number u; note = d } ∷ [];
}

-- the note of a number, if it is not spent, and where it stands
abbrev pub note_of : ℕ → Unspent → Option Kept
note_of number u = find (λ k. k.number == number) u.kept

abbrev pub place_of : ℕ → Unspent → Option ℕ
place_of number u = position (λ k. k.number == number) u.kept

-- the notes without the one at a place, if that is one
abbrev pub without_place : Option ℕ → Unspent → Unspent
without_place None u = u
without_place (Some i) u = record u { kept = remove u.kept i }

-- the notes without that of a number
abbrev pub without : ℕ → Unspent → Unspent
without number u = without_place (place_of number u) u

-- the note that a timer, a rule that was met, and a byte hand out
abbrev pub timed_doubt : Result Timed Refusal → Option DoubtNote
timed_doubt (Ok (timed.Repeated n)) = None
timed_doubt (Ok (timed.Down f)) = f.doubt
timed_doubt (Err e) = None

abbrev pub rule_doubt : Heard → Option DoubtNote
rule_doubt heard.Stale = None
rule_doubt heard.Opened = None
rule_doubt (heard.Confirmed b) = None
rule_doubt heard.BlockRefused = None
rule_doubt heard.NothingThere = None
rule_doubt heard.Received = None
rule_doubt heard.Listed = None
rule_doubt (heard.Down f) = f.doubt

abbrev pub heard_doubt : Result (Option Heard) Refusal → Option DoubtNote
heard_doubt (Ok None) = None
heard_doubt (Ok (Some h)) = rule_doubt h
heard_doubt (Err e) = None
