use Rattle.std.proofs.Common.{arith}
use Rattle.std.proofs.lemmas.Grind.{common_steps}
use Rattle.hex.specs.Hex.{decode_pairs}
use Rattle.script.proofs.digits.Hex.of.Goals as goal

pub returns-then-eq : goal.returns-then-eq
unfolding decode_pairs
returns-then-eq c = grind (arith, common_steps)
