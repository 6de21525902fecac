-- A byte set is a byte written over.
use Rattle.wire.proofs.Stuffing.{over_one}
use Rattle.wire.proofs.writer.Pen.put.Goals as goal

pub returns-clause-wire : goal.returns-clause-wire
returns-clause-wire c = over_one c.args.self.now.wire.now c.args.self.now.len c.args.byte c.requires
