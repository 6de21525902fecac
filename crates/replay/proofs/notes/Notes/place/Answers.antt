use Rattle.std.proofs.Common.{◌==◌, ◌∙◌, sym, ap, slice_get, option_and_then}
use Rattle.replay.proofs.Found.{found_at_place}
use Rattle.replay.proofs.notes.Notes.place.Goals as goal

pub returns-clause-note : goal.returns-clause-note
returns-clause-note c =
    let kept = c.args.self.now.kept.items in
    found_at_place (λ k. k.number == c.args.number) kept
    ∙ ap (option_and_then (slice_get kept)) (sym c.first_of.ensures)
