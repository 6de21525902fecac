use Rattle.std.proofs.Common.{rules, arith}
use Rattle.std.proofs.Output.{has_written_append, has_written_of_eq}
use Rattle.hex.specs.Hex.{encode_with}
use Rattle.replay.proofs.HexDigits.{encode_upper-more}
use Rattle.replay.proofs.event.HexWordsDisplay.fmt.Goals as goal

pub loop-byte-init : goal.loop-byte-init
unfolding encode_with
loop-byte-init g c = λ plain. search rules

pub loop-byte-preserved : goal.loop-byte-preserved
loop-byte-preserved g c = λ plain.
    has_written_of_eq _ _ _ _ _ (encode_upper-more _ c.loop-byte.byte-index (omega arith) (omega arith))
    (has_written_append _ _ _ _ _ _ (c.loop-byte.invariant plain) (search rules))
