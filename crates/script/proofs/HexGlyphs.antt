-- The capital digits of the table are those that std writes.
use Rattle.std.proofs.Common.{◌≡◌, ℕ, ◌<◌, ◌==◌, ◌&&◌, Bool, true, get_or, suc, zero, refl, arith, inl, inr, eqb-true}
use Rattle.std.specs.Fmt.{digit_glyph}
use Rattle.std.proofs.lemmas.Bool.{and_parts, cases_lt}
use Rattle.hex.specs.Hex.{upper_digits}

abbrev same_below : ℕ → Bool
same_below zero = true
same_below (suc n) = (get_or upper_digits n 0 == digit_glyph true n) && same_below n

same_at : (n k : ℕ) → same_below n ≡ true → k < n → get_or upper_digits k 0 ≡ digit_glyph true k
same_at zero k h low = absurd (omega arith)
same_at (suc n) k h low =
    let parts = and_parts (get_or upper_digits n 0 == digit_glyph true n) (same_below n) h in
    elim (cases_lt k n) [
      | inl below ↦ same_at n k parts.1 below
      | inr top ↦
          let e : k ≡ n = omega arith in
          rw e (eqb-true _ _ parts.0)
    ]

pub glyph_upper : (k : ℕ) → k < 16 → get_or upper_digits k 0 ≡ digit_glyph true k
glyph_upper k low = same_at 16 k refl low
