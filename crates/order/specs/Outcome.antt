-- Which submissions had an outcome.
use Rattle.std.specs.Prelude.{Bool, true, false}
use Rattle.order.specs.declared.outcome.Outcome.{Outcome}
use Rattle.order.specs.declared.outcome.Outcome.TheVariants.{Waiting, Confirmed, Doubtful}

abbrev pub is_outcome : Outcome → Outcome → Bool
is_outcome Waiting Waiting = true
is_outcome Confirmed Confirmed = true
is_outcome Doubtful Doubtful = true
is_outcome a b = false
