-- A frame of the host may be sent, so the writer grants it.
use Rattle.frame.specs.declared.form.Direction.TheVariants.{FromHost}
use Rattle.ends.specs.Frames.{request_body}
use Rattle.ends.proofs.Writing.{never_refused}
use Rattle.host.specs.Asked.{asked_request}
use Rattle.host.proofs.Requests.{request_fits}
use Rattle.host.proofs.asked.Asked.write.Goals as goal

pub unreachable-requires : goal.unreachable-requires
unreachable-requires c =
    let q = asked_request c.args.self.now c.args.reset c.args.toggle in
    never_refused FromHost _ (request_body q) c.args.wire.now c.write.new.wire c.in_default.field-0 (request_fits q c.address.result c.frame.result c.address.ensures c.frame.ensures.shows c.frame.ensures.fits) c.requires c.in_default.ensures.answer
