-- Marks, parts and checksum are written one after the other, so the whole is the wire form.
use Rattle.std.proofs.Common.{rules, ℕ, List, [], ◌∷◌, length, ap, ◌∙◌, arith}
use Rattle.wire.specs.Wire.{stuffed, over}
use Rattle.wire.proofs.Stuffing.{parts_length, sealed}
use Rattle.wire.proofs.writer.seal.Goals as goal

pub put_stuffed-requires-4 : goal.put_stuffed-requires-4
put_stuffed-requires-4 c =
    let k = ap (λ (x : List ℕ). length (stuffed x)) c.check-check.ensures in
    omega (arith, c.requires, parts_length c.args.front.now c.args.payload.now c.args.back.now)

pub returns : goal.returns
returns c =
    let f = c.args.front.now in
    let p = c.args.payload.now in
    let b = c.args.back.now in
    let l = parts_length f p b in
    let k = ap (λ (x : List ℕ). length (stuffed x)) c.check-check.ensures in
    let whole = sealed c.args.wire.now c.put.new.self.wire.now c.put-2.new.self.wire.now c.put_stuffed.new.self.wire.now c.put_stuffed-2.new.self.wire.now c.put_stuffed-3.new.self.wire.now c.put_stuffed-4.new.self.wire.now f p b c.check-check.result
    c.put-2.new.self.len c.put_stuffed.new.self.len c.put_stuffed-2.new.self.len c.put_stuffed-3.new.self.len
    c.requires c.check-check.ensures (omega arith) c.put_stuffed.ensures.len c.put_stuffed-2.ensures.len c.put_stuffed-3.ensures.len
    c.put.ensures.wire (c.put-2.ensures.wire ∙ ap (λ (n : ℕ). over c.put.new.self.wire.now n (170 ∷ [])) c.put.ensures.len) c.put_stuffed.ensures.wire c.put_stuffed-2.ensures.wire c.put_stuffed-3.ensures.wire c.put_stuffed-4.ensures.wire in
    record { length = omega (arith, c.put_stuffed-4.ensures.len); after = search (rules, whole) }
