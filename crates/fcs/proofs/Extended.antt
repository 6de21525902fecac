-- The register over more bytes: a list in two parts, and its range.
use Rattle.std.proofs.Common.{◌≡◌, ℕ, suc, ◌*◌, ◌/◌, ◌%◌, ◌<◌, List, [], ◌∷◌, ◌++◌, length, get_or, fold, refl, ap, ◌∙◌, suc-le-suc, zero-lt-suc, arith}
use lib.Bits.{bit_xor, xor_lt}
use Rattle.fcs.specs.Fcs.{bit, eight, step_of, extended, serial, bitwise}
use Rattle.fcs.proofs.Linear.{bit_serial}

pub extended_append : (c : ℕ) (xs ys : List ℕ) → extended c (xs ++ ys) ≡ extended (extended c xs) ys
unfolding extended
extended_append c [] ys = refl
extended_append c (x ∷ xs) ys = extended_append (step_of c x) xs ys

-- the register stays below 65536
bit_fits : (c : ℕ) → c < 65536 → bit c < 65536
bit_fits c h = xor_lt 16 (c / 2) (c % 2 * 33800) (omega arith) (omega arith)

twice : {f : ℕ → ℕ} → ((x : ℕ) → x < 65536 → f x < 65536) → (x : ℕ) → x < 65536 → f (f x) < 65536
twice {f} keeps x h = keeps (f x) (keeps x h)

pub eight_fits : (c : ℕ) → c < 65536 → eight c < 65536
unfolding eight
eight_fits c h = twice (twice (twice bit_fits)) c h

pub step_fits : (c b : ℕ) → c < 65536 → b < 256 → step_of c b < 65536
unfolding step_of
step_fits c b hc hb = eight_fits (bit_xor c b) (xor_lt 16 c b hc (omega (arith, hb)))

pub extended_fits : (c : ℕ) (xs : List ℕ) → c < 65536 → ((k : ℕ) → k < length xs → get_or xs k 0 < 256) → extended c xs < 65536
unfolding extended
extended_fits c [] hc h = hc
extended_fits c (x ∷ xs) hc h =
    extended_fits (step_of c x) xs (step_fits c x hc (h 0 (zero-lt-suc (length xs)))) (λ k l. h (suc k) (suc-le-suc l))

-- bytes at a time are bits at a time
pub extended_serial : (c : ℕ) (xs : List ℕ) → ((k : ℕ) → k < length xs → get_or xs k 0 < 256) → extended c xs ≡ bitwise c xs
unfolding extended
extended_serial c [] h = refl
extended_serial c (x ∷ xs) h =
    ap (λ (r : ℕ). fold step_of r xs) (bit_serial c x (h 0 (zero-lt-suc (length xs))))
    ∙ extended_serial (serial 8 c x) xs (λ k l. h (suc k) (suc-le-suc l))
