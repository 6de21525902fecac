-- An ear of the frame's own direction shows the body of a frame, which is read.
use Rattle.std.proofs.Common.{ap, ◌∙◌, subst}
use Rattle.std.specs.Option.{option_map}
use Rattle.ends.specs.Frames.{frame_read}
use Rattle.ends.specs.Line.{FrameIn}
use Rattle.ends.proofs.Fit.{read_whole}
use Rattle.ends.proofs.ear.Ear.frame.Goals as goal

pub returns-clause-whole : goal.returns-clause-whole
returns-clause-whole g c = λ own.
    let d = g.F.Parsed.direction in
    let body = c.in_ok-body.field-0.now in
    read_whole d body _ (subst (λ x. ∥ FrameIn x body ∥₁) own c.in_ok-body.ensures.frame) c.read.ensures.reads
    ∙ ap (option_map (frame_read d)) c.in_ok-body.ensures.value
