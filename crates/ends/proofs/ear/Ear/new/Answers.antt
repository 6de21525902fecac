-- Nothing was heard yet.
use Rattle.reader.specs.Read.{meaning}
use Rattle.ends.proofs.Line.{at_start}
use Rattle.ends.proofs.ear.Ear.new.Goals as goal

pub invariant_of-result : goal.invariant_of-result
invariant_of-result c = record { line = ∣ at_start (meaning c.new.result) c.args.direction c.new.ensures.value ∣₁ }
