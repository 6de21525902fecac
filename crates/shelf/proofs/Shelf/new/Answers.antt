use Rattle.store.proofs.Laws.{store_laws}
use Rattle.shelf.proofs.Shelf.new.Goals as goal

pub returns-clause-laws : goal.returns-clause-laws
returns-clause-laws c = store_laws
