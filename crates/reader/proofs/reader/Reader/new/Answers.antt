-- What holds of all readers is in the lemma files.
use Rattle.reader.proofs.Counts.{one_wire_form, counts_raw}
use Rattle.reader.proofs.Trip.{round_trip, written_passes}
use Rattle.reader.proofs.reader.Reader.new.Goals as goal

pub returns-clause-round_trip : goal.returns-clause-round_trip
returns-clause-round_trip c = round_trip

pub returns-clause-written_passes : goal.returns-clause-written_passes
returns-clause-written_passes c = written_passes

pub returns-clause-one_wire_form : goal.returns-clause-one_wire_form
returns-clause-one_wire_form c = one_wire_form c.args.direction

pub returns-clause-counts : goal.returns-clause-counts
returns-clause-counts c = counts_raw c.args.direction
