-- The cases stand in the lemma file.
use Rattle.std.proofs.Common.{refl}
use Rattle.cases.proofs.StoreCases.{store_cases_hold}
use Rattle.cases.proofs.proved_store_cases.Goals as goal

pub returns : goal.returns
returns c = record { count = refl; hold = store_cases_hold }
