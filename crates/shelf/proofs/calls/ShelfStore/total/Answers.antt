-- As many wait as places are used.
use Rattle.std.proofs.Common.{sym, ◌∙◌}
use Rattle.std.proofs.lemmas.List.{length-map}
use Rattle.store.proofs.Arrivals.{total_arrived}
use Rattle.shelf.specs.Size.{place_count}
use Rattle.shelf.specs.Shown.{entry, entries}
use Rattle.shelf.proofs.Places.{storable}
use Rattle.shelf.proofs.calls.ShelfStore.total.Goals as goal

pub returns-clause-value : goal.returns-clause-value
returns-clause-value c =
    let s = c.args.self.now in
    c.len.ensures.value ∙ sym (total_arrived (entries s) place_count (storable s) ∙ length-map s.places.items entry)
