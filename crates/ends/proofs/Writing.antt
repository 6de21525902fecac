-- The writer refuses no frame that may be sent into a buffer that is long enough.
use Rattle.std.proofs.Common.{ℕ, ◌≤◌, List, length, Err, arith}
use Rattle.frame.specs.declared.form.Direction.{Direction}
use Rattle.frame.specs.Frame.{Frame, Body}
use Rattle.wire.specs.declared.writer.Refusal.{Refusal}
use Rattle.wire.specs.declared.writer.Refusal.TheVariants.{ShortWire, BadPayload}
use Rattle.wire.specs.Wire.{longest_wire, Writes}

pub never_refused : (d : Direction) (f : Frame) (body before after : List ℕ) (e : Refusal) → Body d body f → longest_wire ≤ length before → Writes d f before after (Err e) → ⊥
never_refused d f body before after ShortWire b wide w = omega (arith, w.0)
never_refused d f body before after BadPayload b wide w = w.1 body b
