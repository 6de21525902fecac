-- The code byte and its bits: what is put together comes apart again.
use Rattle.std.proofs.Common.{◌≡◌, ℕ, zero, suc, ◌+◌, ◌*◌, ◌/◌, ◌%◌, ◌<◌, Bool, true, false, cond, not, eqb, refl, ap, ◌∙◌, mod-lt, mod-eq_of_lt, div-add-mod', arith}
use lib.Bits.{bit_and, and_high}
use Rattle.std.proofs.lemmas.Bool.{eq-eqb, ne_eqb}
use Rattle.std.proofs.lemmas.Nat.{shr-shr}
use Rattle.frame.specs.Frame.{code_byte_of, code_in, reset_in, toggle_in}

-- a test of one bit by a mask
mask_64 : (x : ℕ) → x < 2 → not (eqb (x * 64) 0) ≡ eqb x 1
mask_64 zero h = refl
mask_64 (suc zero) h = refl
mask_64 (suc (suc x)) h = absurd (omega arith)

mask_128 : (x : ℕ) → x < 2 → not (eqb (x * 128) 0) ≡ eqb x 1
mask_128 zero h = refl
mask_128 (suc zero) h = refl
mask_128 (suc (suc x)) h = absurd (omega arith)

pub reset_bit : (b : ℕ) → not (eqb (bit_and b 64) 0) ≡ reset_in b
reset_bit b = ap (λ (x : ℕ). not (eqb x 0)) (and_high b 1 6) ∙ mask_64 (b / 64 % 2) (mod-lt (b / 64) (omega arith))

pub toggle_bit : (b : ℕ) → not (eqb (bit_and b 128) 0) ≡ toggle_in b
toggle_bit b = ap (λ (x : ℕ). not (eqb x 0)) (and_high b 1 7) ∙ mask_128 (b / 128 % 2) (mod-lt (b / 128) (omega arith))

-- the bits of a byte, put together
bit_at : (x w : ℕ) → x < 2 → cond (eqb x 1) w 0 ≡ x * w
bit_at zero w h = omega arith
bit_at (suc zero) w h = omega arith
bit_at (suc (suc x)) w h = absurd (omega arith)

pub code_back : (b : ℕ) → b < 256 → code_byte_of (code_in b) (reset_in b) (toggle_in b) ≡ b
code_back b h =
    let r = bit_at (b / 64 % 2) 64 (mod-lt (b / 64) (omega arith)) in
    let t = bit_at (b / 128 % 2) 128 (mod-lt (b / 128) (omega arith)) in
    let halves = shr-shr b 6 1 in
    let low = div-add-mod' b 64 in
    let high = div-add-mod' (b / 64) 2 in
    let two : b / 128 < 2 = omega arith in
    let top = mod-eq_of_lt two in
    omega arith

pub code_in_byte : (code : ℕ) (r t : Bool) → code < 64 → code_in (code_byte_of code r t) ≡ code
code_in_byte code true true h = omega arith
code_in_byte code true false h = omega arith
code_in_byte code false true h = omega arith
code_in_byte code false false h = omega arith

pub reset_in_byte : (code : ℕ) (r t : Bool) → code < 64 → reset_in (code_byte_of code r t) ≡ r
reset_in_byte code true true h = eq-eqb ((code + 64 + 128) / 64 % 2) 1 (omega arith)
reset_in_byte code true false h = eq-eqb ((code + 64 + 0) / 64 % 2) 1 (omega arith)
reset_in_byte code false true h = ne_eqb ((code + 0 + 128) / 64 % 2) 1 (omega arith)
reset_in_byte code false false h = ne_eqb ((code + 0 + 0) / 64 % 2) 1 (omega arith)

pub toggle_in_byte : (code : ℕ) (r t : Bool) → code < 64 → toggle_in (code_byte_of code r t) ≡ t
toggle_in_byte code true true h = eq-eqb ((code + 64 + 128) / 128 % 2) 1 (omega arith)
toggle_in_byte code false true h = eq-eqb ((code + 0 + 128) / 128 % 2) 1 (omega arith)
toggle_in_byte code true false h = ne_eqb ((code + 64 + 0) / 128 % 2) 1 (omega arith)
toggle_in_byte code false false h = ne_eqb ((code + 0 + 0) / 128 % 2) 1 (omega arith)

-- no code byte of a known code is AA
pub code_no_mark : (code : ℕ) (r t : Bool) → code < 8 → code_byte_of code r t ≡ 170 → ⊥
code_no_mark code true true h e = omega arith
code_no_mark code true false h e = omega arith
code_no_mark code false true h e = omega arith
code_no_mark code false false h e = omega arith
