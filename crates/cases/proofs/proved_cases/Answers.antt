-- The cases stand in the lemma file.
use Rattle.std.proofs.Common.{refl}
use Rattle.cases.proofs.Proved.{proved_cases_hold}
use Rattle.cases.proofs.proved_cases.Goals as goal

pub returns : goal.returns
returns c = record { count = refl; hold = proved_cases_hold }
