-- Bytes in hexadecimal digits, one after the other.
use Rattle.std.proofs.Common.{◌≡◌, ℕ, ◌+◌, ◌<◌, ◌/◌, ◌%◌, ◌^◌, ◌-◌, true, false, List, [], ◌∷◌, ◌++◌, take, length, get_or, refl, sym, ap, ◌∙◌, arith}
use Rattle.std.specs.Fmt.{digits, digit_glyph, padded_integral, format_spec}
use Rattle.std.proofs.lemmas.Fmt.{hex_byte}
use Rattle.std.proofs.lemmas.List.{take_more}
use Rattle.hex.specs.Hex.{encode_upper, encode_with, upper_digits}
use Rattle.script.proofs.HexGlyphs.{glyph_upper}

encode_upper-append : (xs ys : List ℕ) → encode_upper (xs ++ ys) ≡ encode_upper xs ++ encode_upper ys
unfolding encode_with
encode_upper-append [] ys = refl
encode_upper-append (x ∷ xs) ys =
    ap (λ r. get_or upper_digits (x / 16) 0 ∷ (get_or upper_digits (x % 16) 0 ∷ r)) (encode_upper-append xs ys)

encode_upper-one : (n : ℕ) → n < 256
    → padded_integral (format_spec 32 0 4 2 (2 ^ 64 - 1)) false [] (digits 16 true n) ≡ encode_upper (n ∷ [])
unfolding encode_with
encode_upper-one n low =
    let high_digit : get_or upper_digits (n / 16) 0 ≡ digit_glyph true (n / 16) = glyph_upper (n / 16) (omega arith) in
    let low_digit : get_or upper_digits (n % 16) 0 ≡ digit_glyph true (n % 16) = glyph_upper (n % 16) (omega arith) in
    hex_byte true n low ∙ (rw (high_digit, low_digit))

pub encode_upper-more : (xs : List ℕ) (i : ℕ) → i < length xs → get_or xs i 0 < 256
    → encode_upper (take i xs) ++ padded_integral (format_spec 32 0 4 2 (2 ^ 64 - 1)) false [] (digits 16 true (get_or xs i 0))
    ≡ encode_upper (take (i + 1) xs)
encode_upper-more xs i below small =
    ap (λ r. encode_upper (take i xs) ++ r) (encode_upper-one (get_or xs i 0) small)
    ∙ sym (encode_upper-append (take i xs) (get_or xs i 0 ∷ []))
    ∙ ap encode_upper (sym (take_more xs i 0 below))
