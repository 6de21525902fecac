-- The bound holds of all frames.
use Rattle.wire.proofs.Short.{short_wire}
use Rattle.wire.proofs.writer.write.Goals as goal

pub returns-clause-short : goal.returns-clause-short
returns-clause-short g c = short_wire
