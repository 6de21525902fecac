-- The register is linear, so that eight steps are a look-up at the low byte and a shift.
use Rattle.std.proofs.Common.{◌≡◌, ℕ, zero, suc, ◌*◌, ◌/◌, ◌%◌, ◌^◌, ◌<◌, sym, refl, ap, ◌∙◌, ap₂, mod-lt, mul_assoc, div-lt_iff_lt-mul, pow-suc, div-add-mod', mul-one, mul-div_cancel, arith}
use native.Mathlib.Nat.{mul-mod_left, div-eq_of_lt}
use lib.Bits.{bit_xor, xor_shr, xor_mod, xor_assoc, xor_comm, xor_zero_r, xor_shifted}
use lib.Pow.{split}
use lib.Arith.{lt-one}
use Rattle.fcs.specs.Fcs.{bit, eight, step_of, serial, BitSerial, Linear}

-- (a ^ b) ^ (c ^ d) is (a ^ c) ^ (b ^ d)
pub xor_swap : (a b c d : ℕ) → bit_xor (bit_xor a b) (bit_xor c d) ≡ bit_xor (bit_xor a c) (bit_xor b d)
xor_swap a b c d =
    xor_assoc a b (bit_xor c d)
    ∙ ap (bit_xor a) (sym (xor_assoc b c d) ∙ ap (λ (x : ℕ). bit_xor x d) (xor_comm b c) ∙ xor_assoc c b d)
    ∙ sym (xor_assoc a c (bit_xor b d))

-- a bit times the polynomial
poly_xor : (x y : ℕ) → x < 2 → y < 2 → bit_xor x y * 33800 ≡ bit_xor (x * 33800) (y * 33800)
poly_xor zero y hx hy = refl
poly_xor (suc zero) zero hx hy = refl
poly_xor (suc zero) (suc zero) hx hy = refl
poly_xor (suc zero) (suc (suc y)) hx hy = absurd (omega arith)
poly_xor (suc (suc x)) y hx hy = absurd (omega arith)

bit_xor_bits : (a b : ℕ) → bit (bit_xor a b) ≡ bit_xor (bit a) (bit b)
bit_xor_bits a b =
    ap₂ (λ (x y : ℕ). bit_xor x (y * 33800)) (xor_shr a b 1) (xor_mod a b 1)
    ∙ ap (bit_xor (bit_xor (a / 2) (b / 2))) (poly_xor (a % 2) (b % 2) (mod-lt a (omega arith)) (mod-lt b (omega arith)))
    ∙ xor_swap (a / 2) (b / 2) (a % 2 * 33800) (b % 2 * 33800)

-- an even number is halved
bit_even : (a : ℕ) → bit (a * 2) ≡ a
bit_even a =
    ap₂ (λ (x y : ℕ). bit_xor x (y * 33800)) (mul-div_cancel a (omega arith)) (mul-mod_left a 2) ∙ xor_zero_r a

-- n steps
times : (n : ℕ) → ℕ → ℕ
times zero x = x
times (suc n) x = times n (bit x)

times_xor : (n a b : ℕ) → times n (bit_xor a b) ≡ bit_xor (times n a) (times n b)
unfolding times
times_xor zero a b = refl
times_xor (suc n) a b = ap (times n) (bit_xor_bits a b) ∙ times_xor n (bit a) (bit b)

pub eight_xor : (a b : ℕ) → eight (bit_xor a b) ≡ bit_xor (eight a) (eight b)
unfolding eight times
eight_xor a b = times_xor 8 a b

times_high : (n a : ℕ) → times n (a * 2 ^ n) ≡ a
unfolding times
times_high zero a = mul-one a
times_high (suc n) a =
    ap (λ (x : ℕ). times n (bit x)) (ap (λ (x : ℕ). a * x) (pow-suc 2 n) ∙ sym (mul_assoc a (2 ^ n) 2))
    ∙ ap (times n) (bit_even (a * 2 ^ n)) ∙ times_high n a

eight_high : (a : ℕ) → eight (a * 256) ≡ a
unfolding eight times
eight_high a = times_high 8 a

-- eight steps are a look-up at the low byte, and a shift
pub eight_split : (x : ℕ) → eight x ≡ bit_xor (x / 256) (eight (x % 256))
eight_split x =
    ap eight (sym (split x 8) ∙ sym (xor_shifted (x / 256) 8 (x % 256) (mod-lt x (omega arith))))
    ∙ eight_xor (x / 256 * 256) (x % 256)
    ∙ ap (λ (y : ℕ). bit_xor y (eight (x % 256))) (eight_high (x / 256))

-- the same of a byte that enters the register
pub step_split : (c b : ℕ) → b < 256 → step_of c b ≡ bit_xor (c / 256) (eight (bit_xor c b % 256))
unfolding step_of
step_split c b h =
    eight_split (bit_xor c b)
    ∙ ap (λ (x : ℕ). bit_xor x (eight (bit_xor c b % 256)))
    (xor_shr c b 8 ∙ ap (bit_xor (c / 256)) (div-eq_of_lt h) ∙ xor_zero_r (c / 256))

pub linear : Linear
unfolding step_of
linear c d a b = ap eight (xor_swap c d a b) ∙ eight_xor (bit_xor c a) (bit_xor d b)

-- a byte at once is the byte bit by bit
times_serial : (n c b : ℕ) → b < 2 ^ n → times n (bit_xor c b) ≡ serial n c b
unfolding times
times_serial zero c b h = ap (bit_xor c) (lt-one h) ∙ xor_zero_r c
times_serial (suc n) c b h =
    let parts : b ≡ bit_xor (b % 2) (b / 2 * 2) = sym (div-add-mod' b 2) ∙ sym (xor_shifted (b / 2) 1 (b % 2) (mod-lt b (omega arith))) ∙ xor_comm (b / 2 * 2) (b % 2) in
    let half : b / 2 < 2 ^ n = (div-lt_iff_lt-mul (omega arith)).1 (rw pow-suc at h) in
    ap (λ (x : ℕ). times n (bit x)) (ap (bit_xor c) parts ∙ sym (xor_assoc c (b % 2) (b / 2 * 2)))
    ∙ ap (times n) (bit_xor_bits (bit_xor c (b % 2)) (b / 2 * 2) ∙ ap (bit_xor (bit (bit_xor c (b % 2)))) (bit_even (b / 2)))
    ∙ times_serial n (bit (bit_xor c (b % 2))) (b / 2) half

pub bit_serial : BitSerial
unfolding eight step_of times
bit_serial c b h = times_serial 8 c b h
