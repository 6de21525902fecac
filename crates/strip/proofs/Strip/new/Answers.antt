use Rattle.store.proofs.Laws.{store_laws}
use Rattle.strip.proofs.Strip.new.Goals as goal

pub returns-clause-laws : goal.returns-clause-laws
returns-clause-laws c = store_laws
