-- One byte more was heard.
use Rattle.std.proofs.Common.{◌<◌, sym, subst, arith}
use mathlib.Core.Logic.{∥∥₁_map}
use Rattle.reader.specs.Read.{meaning}
use Rattle.ends.specs.Line.{FromStart}
use Rattle.ends.proofs.Line.{one_more}
use Rattle.ends.proofs.ear.Ear.hear.Goals as goal

pub invariant_of-self : goal.invariant_of-self
invariant_of-self c =
    let fits : c.args.byte < 256 = omega arith in
    record { line = ∥∥₁_map c.args.self.now.line (λ s. subst FromStart (sym c.hear.ensures.after) (one_more (meaning c.args.self.now.reader) c.args.byte fits s)) }
