-- The bytes before this turn are written, stuffed.
use Rattle.std.proofs.Common.{◌≡◌, ◌+◌, length, take}
use Rattle.wire.specs.Wire.{stuffed, over}
use Rattle.wire.proofs.writer.Pen.put_stuffed.Given as goal

abbrev pub invariant-loop-byte : goal.invariant-loop-byte
invariant-loop-byte l =
    (l.self.wire.ghost_name ≡ l.initial.self.wire.ghost_name)
    × (l.self.len ≡ l.initial.self.len + length (stuffed (take l.byte-index l.bytes)))
    × (length l.self.wire.now ≡ length l.initial.self.wire.now)
    × (l.self.wire.now ≡ over l.initial.self.wire.now l.initial.self.len (stuffed (take l.byte-index l.bytes)))
