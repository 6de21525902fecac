-- A submission once more that was refused: its note stands where it stood.
use Rattle.std.proofs.Common.{◌≡◌, ℕ, false, Ok, Err, Result, Some, Option, MatchOption, List, refl, sym, ap, subst, ◌∙◌, slice_get, insert, remove}
use Rattle.ends.specs.declared.refusal.Refusal.{Refusal}
use Rattle.ends.specs.Blocks.{granted}
use Rattle.host.specs.declared.answer.Returned.{Returned}
use Rattle.host.specs.declared.note.DoubtNote.{DoubtNote}
use Rattle.host.specs.Answers.{again_answer}
use Rattle.replay.specs.declared.notes.Kept.{Kept}
use Rattle.replay.proofs.Found.{insert-remove}

pub was_refused : (r : Result ℕ Refusal) (note : DoubtNote) (x : Returned) → again_answer r note ≡ Err x → granted r ≡ false
was_refused (Ok m) note x e = absurd (cc)
was_refused (Err y) note x e = refl

pub handed_back : (r : Result ℕ Refusal) (note : DoubtNote) (x : Returned) → again_answer r note ≡ Err x → x.note ≡ note
handed_back (Ok m) note x e = absurd (cc)
handed_back (Err y) note x e = cc

-- a note that was found
pub taken : (o : Option Kept) (k : Kept) (P : Type 0) (Q : Kept → Type 0) → o ≡ Some k → Q k → MatchOption o P Q
taken o k P Q e q = subst (λ (x : Option Kept). MatchOption x P Q) (sym e) q

-- the note that was taken is put back, with what was handed back
pub as_before : (xs rest after : List Kept) (i : ℕ) (k : Kept) (note : DoubtNote) → slice_get xs i ≡ Some k → note ≡ k.note
    → rest ≡ remove xs i → after ≡ insert rest i (record { number = k.number; note = note }) → after ≡ xs
as_before xs rest after i k note there same without with =
    with ∙ ap (λ r. insert r i (record { number = k.number; note = note })) without
    ∙ ap (λ n. insert (remove xs i) i (record { number = k.number; note = n })) same
    ∙ insert-remove xs i k there
