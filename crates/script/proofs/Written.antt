-- What a word stands for is read from it: numbers and bytes, as they are written.
use Rattle.std.proofs.Common.{◌≡◌, ℕ, ◌+◌, ◌*◌, ◌/◌, ◌%◌, ◌^◌, ◌<◌, ◌==◌, inl, inr, Bool, true, false, not, List, [], ◌∷◌, ◌++◌, length, suc, zero, refl, ap, ◌∙◌, arith, Some, Ok, Err, decimal, codes, replicate, length-append, if◌then◌else◌}
use Rattle.std.specs.List.{list_all}
use Rattle.std.specs.Result.{result_unwrap_or}
use Rattle.std.specs.Str.{bytes_eq}
use Rattle.std.specs.Char.{is_ascii_digit, is_ascii_hexdigit, digit_value}
use Rattle.std.specs.Fmt.{digit_glyph}
use Rattle.std.specs.Str.Parse.{AllDigits, digits_value}
use Rattle.std.proofs.lemmas.Fmt.{decimal_is_IsNumeral}
use Rattle.std.proofs.lemmas.Grind.{common_steps}
use Rattle.hex.specs.Hex.{decode_pairs, decode_of, hex_digit_value, value_at, digit_or_error, pair_value}
use Rattle.hex.proofs.Pairs.{decode_pairs-ok_pair, cons_byte}
use Rattle.hex.proofs.HexLemmas.{decode_of-even}
use Rattle.script.specs.Numbers.{number_in}
use Rattle.script.specs.declared.unreadable.Unreadable.TheVariants.{MissingWord, OddHex, NoHex}
use Rattle.script.specs.Bytes.{bytes_in, decoded}
use Rattle.script.specs.Line.{WritesNumber, WritesDigit, WritesPairs, WritesBytes}
use Rattle.script.proofs.Listed.{pass_both, pass_replicate}

-- ---- numbers

digit_test : (c : ℕ) → digit_value c < 10 → is_ascii_digit c ≡ true
digit_test c low = grind (arith, common_steps)

digits_test : (ds : List ℕ) → AllDigits 10 ds → list_all is_ascii_digit ds ≡ true
digits_test [] d = refl
digits_test (c ∷ cs) d = let head = digit_test c d.0 in let tail = digits_test cs d.1 in rw (head, tail)

-- zeros before digits add nothing
zeros_value : (k : ℕ) (ds : List ℕ) → digits_value 10 (replicate k 48 ++ ds) ≡ digits_value 10 ds
zeros_value zero ds = refl
zeros_value (suc k) ds = zeros_value k ds

pub number_digits : (n : ℕ) (word : List ℕ) → WritesNumber n word → list_all is_ascii_digit word ≡ true
number_digits n word w =
    let numeral = decimal_is_IsNumeral n w.fits in
    rw w.digits (pass_both is_ascii_digit (replicate w.zeros 48) (decimal n) (pass_replicate is_ascii_digit w.zeros 48 refl)
    (digits_test (decimal n) numeral.0.1))

pub number_long : (n : ℕ) (word : List ℕ) → WritesNumber n word → 0 < length word
number_long n word w =
    let numeral = decimal_is_IsNumeral n w.fits in
    rw w.digits (omega (arith, length-append (replicate w.zeros 48) (decimal n), numeral.0.0))

number_value : (n : ℕ) (word : List ℕ) → WritesNumber n word → digits_value 10 word ≡ n
number_value n word w =
    let numeral = decimal_is_IsNumeral n w.fits in
    rw w.digits (zeros_value w.zeros (decimal n) ∙ numeral.1)

read_digits : (n : ℕ) (word : List ℕ) → n < 2 ^ 64 → 0 < length word → list_all is_ascii_digit word ≡ true
    → digits_value 10 word ≡ n → number_in word ≡ Ok n
read_digits n word fits long digits value = grind (arith, common_steps)

pub number_reads : (n : ℕ) (word : List ℕ) → WritesNumber n word → number_in word ≡ Ok n
number_reads n word w =
    read_digits n word w.fits (number_long n word w) (number_digits n word w) (number_value n word w)

-- ---- bytes

glyph_value : (u : Bool) (d : ℕ) → d < 16 → hex_digit_value (digit_glyph u d) ≡ Some d
glyph_value true d low = grind (arith, common_steps)
glyph_value false d low = grind (arith, common_steps)

glyph_test : (u : Bool) (d : ℕ) → d < 16 → is_ascii_hexdigit (digit_glyph u d) ≡ true
glyph_test true d low = grind (arith, common_steps)
glyph_test false d low = grind (arith, common_steps)

digit_reads : (d c : ℕ) → d < 16 → WritesDigit d c → (i : ℕ) → value_at c i ≡ Ok d
digit_reads d c low (inl e) i = rw e (ap (digit_or_error (digit_glyph true d) i) (glyph_value true d low))
digit_reads d c low (inr e) i = rw e (ap (digit_or_error (digit_glyph false d) i) (glyph_value false d low))

digit_passes : (d c : ℕ) → d < 16 → WritesDigit d c → is_ascii_hexdigit c ≡ true
digit_passes d c low (inl e) = rw e (glyph_test true d low)
digit_passes d c low (inr e) = rw e (glyph_test false d low)

pairs_read : (i : ℕ) (bytes word : List ℕ) → WritesPairs bytes word → decode_pairs i word ≡ Ok bytes
unfolding decode_pairs
pairs_read i [] word w = rw w
pairs_read i (b ∷ bytes) [] w = absurd w
pairs_read i (b ∷ bytes) (high ∷ []) w = absurd w
pairs_read i (b ∷ bytes) (high ∷ low ∷ word) w =
    let above : b / 16 < 16 = let fits = w.0 in omega arith in
    let below : b % 16 < 16 = omega arith in
    let first = digit_reads (b / 16) high above w.1 i in
    let second = digit_reads (b % 16) low below w.2 (i + 1) in
    let pair : pair_value high low i ≡ Ok (b / 16 * 16 + b % 16) = rw (first, second) refl in
    let whole : b / 16 * 16 + b % 16 ≡ b = omega arith in
    decode_pairs-ok_pair i high low _ word pair
    ∙ ap (cons_byte (b / 16 * 16 + b % 16)) (pairs_read (i + 2) bytes word w.3)
    ∙ ap (λ (v : ℕ). Ok (v ∷ bytes)) whole

pairs_even : (bytes word : List ℕ) → WritesPairs bytes word → length word ≡ 2 * length bytes
pairs_even [] word w = rw w
pairs_even (b ∷ bytes) [] w = absurd w
pairs_even (b ∷ bytes) (high ∷ []) w = absurd w
pairs_even (b ∷ bytes) (high ∷ low ∷ word) w = let rest = pairs_even bytes word w.3 in omega (arith, rest)

pub pairs_test : (bytes word : List ℕ) → WritesPairs bytes word → list_all is_ascii_hexdigit word ≡ true
pairs_test [] word w = rw w
pairs_test (b ∷ bytes) [] w = absurd w
pairs_test (b ∷ bytes) (high ∷ []) w = absurd w
pairs_test (b ∷ bytes) (high ∷ low ∷ word) w =
    let above : b / 16 < 16 = let fits = w.0 in omega arith in
    let first = digit_passes (b / 16) high above w.1 in
    let second = digit_passes (b % 16) low (omega arith) w.2 in
    let rest = pairs_test bytes word w.3 in
    rw (first, second, rest)

no_dash : (word : List ℕ) → 1 < length word → bytes_eq word (codes "-") ≡ false
no_dash [] long = absurd (omega arith)
no_dash (x ∷ []) long = absurd (omega arith)
no_dash (x ∷ y ∷ word) long = grind (arith, common_steps)

-- the last of four cases
last_case : (none dash odd other : Bool) (bytes : List ℕ) → none ≡ false → dash ≡ false → odd ≡ false → other ≡ false
    → (if none then Err MissingWord else if dash then Ok [] else if odd then Err OddHex else if other then Err NoHex else Ok bytes)
    ≡ Ok bytes
last_case none dash odd other bytes a b c d = rw (a, b, c, d)

read_pairs : (bytes word : List ℕ) → 1 < length word → length word % 2 ≡ 0 → list_all is_ascii_hexdigit word ≡ true
    → decode_of word ≡ Ok bytes → bytes_in word ≡ Ok bytes
read_pairs bytes word long even digits value =
    let some : (length word == 0) ≡ false = grind (arith, common_steps) in
    let no_odd : (length word % 2 == 1) ≡ false = grind (arith, common_steps) in
    last_case (length word == 0) (bytes_eq word (codes "-")) (length word % 2 == 1) (not (list_all is_ascii_hexdigit word)) (decoded word)
    some (no_dash word long) no_odd (ap not digits)
    ∙ ap (λ r. Ok (result_unwrap_or r [])) value

pub pairs_long : (b : ℕ) (bytes word : List ℕ) → WritesPairs (b ∷ bytes) word → 0 < length word
pairs_long b bytes word w = let size = pairs_even (b ∷ bytes) word w in omega (arith, size)

pub bytes_read : (bytes word : List ℕ) → WritesBytes bytes word → bytes_in word ≡ Ok bytes
bytes_read [] word w = rw w
bytes_read (b ∷ bytes) word w =
    let size = pairs_even (b ∷ bytes) word w in
    let even : length word % 2 ≡ 0 = omega (arith, size) in
    read_pairs (b ∷ bytes) word (omega (arith, size)) even (pairs_test (b ∷ bytes) word w)
    (decode_of-even word even ∙ pairs_read 0 (b ∷ bytes) word w)
