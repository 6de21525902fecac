-- An answer may be sent, so the writer grants it.
use Rattle.frame.specs.declared.form.Direction.TheVariants.{FromTnc}
use Rattle.ends.specs.Frames.{answer_body}
use Rattle.ends.proofs.Writing.{never_refused}
use Rattle.tnc.specs.Held.{held_answer}
use Rattle.tnc.proofs.Sending.{answer_fits}
use Rattle.tnc.proofs.held.Held.write.Goals as goal

pub unreachable-requires : goal.unreachable-requires
unreachable-requires c =
    let h = c.args.self.now in
    never_refused FromTnc _ (answer_body (held_answer h)) c.args.wire.now c.write.new.wire c.in_default.field-0 (answer_fits h c.address.result c.frame.result c.address.ensures c.frame.ensures) c.requires c.in_default.ensures.answer
