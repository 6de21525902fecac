-- The register runs over the three parts as over the whole.
use Rattle.wire.proofs.Stuffing.{parts_check}
use Rattle.wire.proofs.writer.check.Goals as goal

pub returns : goal.returns
returns c = parts_check c.args.front.now c.args.payload.now c.args.back.now c.checksum.result c.extend.result c.extend-2.result c.extend-register.result
    c.extend.ensures.value c.extend-2.ensures.value c.extend-register.ensures.value c.checksum.ensures.value
