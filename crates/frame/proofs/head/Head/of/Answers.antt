-- The two flags are the bits of the code byte.
use Rattle.frame.proofs.Bits.{reset_bit, toggle_bit}
use Rattle.frame.proofs.head.Head.of.Goals as goal

pub returns : goal.returns
returns c = record { channel_byte = c.in_ok-of.ensures.1; address = c.in_ok-of.ensures.0; reset = reset_bit _; toggle = toggle_bit _ }
