-- Digits are ASCII, and `parse` reads them as they are.
use Rattle.std.proofs.Common.{◌≡◌, ℕ, ◌<◌, ◌≤◌, true, List, [], ◌∷◌, length, get_or, suc, zero, refl, arith, ◌^◌, subst, Some, None, Result, Ok, Err, MatchResult, IsOk, sym, ◌∙◌, ap}
use Rattle.std.specs.List.{list_all}
use Rattle.std.specs.Char.{is_ascii_digit, digit_value}
use Rattle.std.specs.Result.{result_ok}
use Rattle.script.specs.Numbers.{value_of}
use Rattle.std.specs.Str.Parse.{AllDigits, without_leading_plus, digits_value, ParsesUnsigned, IsNumeral}
use Rattle.std.proofs.lemmas.Grind.{common_steps}

-- the first of digits is one, and so are the others
head_digit : (b : ℕ) (bs : List ℕ) → list_all is_ascii_digit (b ∷ bs) ≡ true → is_ascii_digit b ≡ true
head_digit b bs h = grind (arith, common_steps)

tail_digits : (b : ℕ) (bs : List ℕ) → list_all is_ascii_digit (b ∷ bs) ≡ true → list_all is_ascii_digit bs ≡ true
tail_digits b bs h = grind (arith, common_steps)

digit_low : (b : ℕ) → is_ascii_digit b ≡ true → 48 ≤ b
digit_low b h = grind (arith, common_steps)

digit_high : (b : ℕ) → is_ascii_digit b ≡ true → b ≤ 57
digit_high b h = grind (arith, common_steps)

digit_small : (b : ℕ) → 48 ≤ b → b ≤ 57 → digit_value b < 10
digit_small b low high = grind (arith, common_steps)

pub digits_ascii : (bs : List ℕ) → list_all is_ascii_digit bs ≡ true → (i : ℕ) → get_or bs i 0 < 128
digits_ascii [] h i = omega arith
digits_ascii (b ∷ bs) h zero = let high = digit_high b (head_digit b bs h) in omega arith
digits_ascii (b ∷ bs) h (suc i) = digits_ascii bs (tail_digits b bs h) i

pub digits_numeral : (bs : List ℕ) → list_all is_ascii_digit bs ≡ true → AllDigits 10 bs
digits_numeral [] h = tt
digits_numeral (b ∷ bs) h =
    let d = head_digit b bs h in
    (digit_small b (digit_low b d) (digit_high b d), digits_numeral bs (tail_digits b bs h))

pub digits_unsigned : (bs : List ℕ) → list_all is_ascii_digit bs ≡ true → without_leading_plus bs ≡ bs
digits_unsigned [] h = refl
digits_unsigned (b ∷ bs) h = let low = digit_low b (head_digit b bs h) in grind (arith, common_steps)

-- a result is an `Ok` where its `Err` says what is not so
pub ok_where : {T E : Type 0} (U : Type 0) (P : T → Type 0) (Q : E → Type 0) (r : Result T E) → U
    → MatchResult r P (λ e. (¬ U) × Q e) → IsOk r
ok_where U P Q (Ok x) u m = refl
ok_where U P Q (Err e) u m = absurd (m.0 u)

-- what holds of an `Ok`
pub ok_fact : {T E : Type 0} (P : T → Type 0) (Q : E → Type 0) (r : Result T E) (x : T) → r ≡ Ok x
    → MatchResult r P Q → P x
ok_fact P Q r x e m = subst (λ v. MatchResult v P Q) e m

fits_value : (bs : List ℕ) → digits_value 10 bs < 2 ^ 64 → value_of bs ≡ Some (digits_value 10 bs)
fits_value bs h = grind (arith, common_steps)

large_value : (bs : List ℕ) → 2 ^ 64 ≤ digits_value 10 bs → value_of bs ≡ None
large_value bs h = grind (arith, common_steps)

-- what `parse` makes of digits
pub parsed_value : {E : Type 0} (bs : List ℕ) (r : Result ℕ E) → 0 < length bs → AllDigits 10 bs → without_leading_plus bs ≡ bs
    → ParsesUnsigned 64 10 bs r → result_ok r ≡ value_of bs
parsed_value bs (Ok x) some digits plain p =
    let below : digits_value 10 bs < 2 ^ 64 = subst (λ (t : List ℕ). digits_value 10 t < 2 ^ 64) plain p.0.1 in
    let worth : x ≡ digits_value 10 bs = subst (λ (t : List ℕ). x ≡ digits_value 10 t) plain p.1 in
    ap Some worth ∙ sym (fits_value bs below)
parsed_value bs (Err e) some digits plain p =
    let no = subst (λ (t : List ℕ). ¬ (IsNumeral 10 t × (digits_value 10 t < 2 ^ 64))) plain p in
    let high : digits_value 10 bs < 2 ^ 64 → ⊥ = λ below. no ((some, digits), below) in
    sym (large_value bs (omega arith))
