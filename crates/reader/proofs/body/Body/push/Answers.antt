-- One byte more stands at the end and in the register.
use Rattle.std.proofs.Common.{length, ap, arith, length-take-le}
use Rattle.reader.proofs.Fields.{register_more}
use Rattle.reader.proofs.body.Body.push.Goals as goal

pub invariant_of-self : goal.invariant_of-self
invariant_of-self c =
    let b = c.self.inside in
    let used = length-take-le b.len b.bytes (omega arith) in
    let same = ap length c.self.view_is in
    (omega arith, grind (arith, register_more))
