-- What became of the submission whose block left its end's store.
use Rattle.std.specs.Prelude.{Option, Some, None}
use Rattle.ends.specs.declared.name.Went.{Went}
use Rattle.ends.specs.declared.name.Went.TheVariants as went
use Rattle.ends.specs.Blocks.{Word, silent, confirms, doubts}
use Rattle.order.specs.declared.outcome.Outcome.TheVariants.{Confirmed, Doubtful}
use Rattle.show.specs.declared.settled.Settled.{Settled}

abbrev pub settled : Went → Settled
settled (went.Confirmed b) = record { number = b.number; outcome = Confirmed }
settled (went.Doubtful b) = record { number = b.number; outcome = Doubtful }

-- the same of the block that an answer names, if it names one
abbrev pub settled_by : Word → Option Settled
settled_by silent = None
settled_by (confirms c n) = Some (record { number = n; outcome = Confirmed })
settled_by (doubts c n) = Some (record { number = n; outcome = Doubtful })
