-- One byte more is stuffed after those before it.
use Rattle.std.proofs.Common.{ℕ, ◌+◌, ◌<◌, ◌≤◌, true, false, cond, eqb, [], ◌∷◌, length, get_or, take, add-zero, refl, ap, arith}
use Rattle.wire.specs.Wire.{stuffed, stuff}
use Rattle.wire.proofs.Stuffing.{stuffed_none, stuffed_more, stuffed_part, length_more, stuff_mark, stuff_other, over_none, over_over}
use Rattle.wire.proofs.writer.Pen.put_stuffed.Goals as goal
use Rattle.wire.proofs.writer.Pen.put_stuffed.Goals.{then-byte, else-byte}

pub loop-byte-init : goal.loop-byte-init
loop-byte-init c = (refl, simp (stuffed_none, add-zero), refl, simp (stuffed_none, over_none))

-- a byte takes one place at least, and AA takes two
one : (b : ℕ) → 1 ≤ length (stuff b)
one b = elim (eqb b 170) as (λ t. 1 ≤ length (cond t (b ∷ 0 ∷ []) (b ∷ []))) [ true ↦ omega arith | false ↦ omega arith ]

pub put-requires : goal.put-requires
put-requires c =
    let xs = c.args.bytes.now in
    let i = c.loop-byte.byte-index in
    let h : i < length xs = omega arith in
    omega (arith, c.requires, length_more xs i h, stuffed_part xs (i + 1), one (get_or xs i 0))

pub put-requires-then-byte : goal.put-requires-then-byte
put-requires-then-byte c =
    let xs = c.args.bytes.now in
    let i = c.loop-byte.byte-index in
    let h : i < length xs = omega arith in
    let two = ap length (stuff_mark (get_or xs i 0) c.if-byte.true) in
    omega (arith, c.requires, length_more xs i h, stuffed_part xs (i + 1))

pub loop-byte-preserved : goal.loop-byte-preserved
loop-byte-preserved c =
    let xs = c.args.bytes.now in
    let i = c.loop-byte.byte-index in
    let b = get_or xs i 0 in
    let d = c.args.self.now.wire.now in
    let n = c.loop-byte.self.len in
    let inv = c.loop-byte.invariant in
    let h : i < length xs = omega arith in
    let m = stuffed_more xs i h in
    let k = length_more xs i h in
    let e = over_over d c.args.self.now.len (stuffed (take i xs)) (stuff b) n (omega (arith, c.requires)) inv.1 in
    elim c.if-byte.branch [
      | then-byte w ↦
          let two = stuff_mark b w.if-byte.true in
          let l = ap length two in
          let t = over_over c.loop-byte.self.wire.now n (b ∷ []) (0 ∷ []) (n + 1) (omega (arith, c.requires, stuffed_part xs (i + 1))) refl in
          rw w.self-is (cc, omega arith, omega arith, cc)
      | else-byte w ↦
          let one = stuff_other b w.if-byte.false in
          let l = ap length one in
          rw w.self-is (cc, omega arith, omega arith, cc)
    ]
