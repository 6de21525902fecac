-- What is shown is the body of a frame.
use Rattle.std.proofs.Common.{◌≡◌, ℕ, List, IfSome, Some, None, Option, sym, Bor}
use mathlib.Core.Logic.{∥∥₁_map}
use Rattle.std.specs.Option.{option_map}
use Rattle.reader.specs.Read.{Meaning, passed}
use Rattle.ends.specs.Line.{FromStart, FrameIn}
use Rattle.ends.specs.Ear.{heard_by}
use Rattle.ends.proofs.Line.{shown}
use Rattle.ends.proofs.ear.Ear.body.Goals as goal

framed : (m : Meaning) (r : Option (Bor (List ℕ))) → ∥ FromStart m ∥₁ → option_map (λ x. x.now) r ≡ passed m → IfSome r (λ b. ∥ FrameIn m.direction b.now ∥₁)
framed m None s e = tt
framed m (Some b) s e = ∥∥₁_map s (λ x. shown m b.now x (sym e))

pub returns-clause-frame : goal.returns-clause-frame
returns-clause-frame c = framed (heard_by c.args.self.now) c.body.result c.args.self.now.line c.body.ensures
