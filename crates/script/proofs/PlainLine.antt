-- The plainest line is one that says what it is written of.
use Rattle.std.proofs.Common.{◌≡◌, ℕ, ◌/◌, ◌%◌, ◌<◌, nat_lt, true, List, [], ◌∷◌, refl, sym, ap, append-nil, arith, inl}
use Rattle.std.specs.List.{list_all}
use Rattle.std.proofs.lemmas.Bool.{and_parts}
use Rattle.std.proofs.lemmas.Grind.{common_steps}
use Rattle.hex.specs.Hex.{encode_upper, encode_with}
use Rattle.script.specs.Said.{Said}
use Rattle.script.specs.Line.{Part, a_first, a_place, a_kind, a_host_call, a_tnc_call, a_number, some_bytes, Writes, WritesPairs, IsText, IsLine, parts_of, plain_word, plain_text, plain_line, Fits, AllFit}
use Rattle.script.proofs.HexGlyphs.{glyph_upper}

plain_pairs : (bytes : List ℕ) → list_all (λ b. nat_lt b 256) bytes ≡ true → WritesPairs bytes (encode_upper bytes)
unfolding encode_with
plain_pairs [] fits = refl
plain_pairs (b ∷ bytes) fits =
    let parts = and_parts (nat_lt b 256) (list_all (λ x. nat_lt x 256) bytes) fits in
    let low : b < 256 = grind (arith, common_steps) in
    (low, inl (glyph_upper (b / 16) (omega arith)), inl (glyph_upper (b % 16) (omega arith)), plain_pairs bytes parts.1)

plain_writes : (p : Part) → Fits p → Writes p (plain_word p)
plain_writes (a_first f) fits = refl
plain_writes (a_place p) fits = refl
plain_writes (a_kind k) fits = refl
plain_writes (a_host_call v) fits = refl
plain_writes (a_tnc_call v) fits = refl
plain_writes (a_number n) fits = record { fits = fits; zeros = 0; digits = refl }
plain_writes (some_bytes []) fits = refl
plain_writes (some_bytes (b ∷ bytes)) fits = plain_pairs (b ∷ bytes) fits

-- a space more before a text
spaced : (p : Part) (parts : List Part) (text : List ℕ) → IsText (p ∷ parts) text → IsText (p ∷ parts) (32 ∷ text)
spaced p parts text b = record {
  blanks = 32 ∷ b.blanks;
  word = b.word;
  rest = b.rest;
  whole = ap (λ t. 32 ∷ t) b.whole;
  blank = b.blank;
  writes = b.writes;
  parted = b.parted;
  then = b.then;
}

plain_is_text : (parts : List Part) → AllFit parts → IsText parts (plain_text parts)
plain_is_text [] fits = refl
plain_is_text (p ∷ []) fits = record {
  blanks = [];
  word = plain_word p;
  rest = [];
  whole = sym (append-nil (plain_word p));
  blank = refl;
  writes = plain_writes p fits.0;
  parted = tt;
  then = refl;
}
plain_is_text (p ∷ q ∷ parts) fits =
    record {
      blanks = [];
      word = plain_word p;
      rest = 32 ∷ plain_text (q ∷ parts);
      whole = refl;
      blank = refl;
      writes = plain_writes p fits.0;
      parted = refl;
      then = spaced q parts (plain_text (q ∷ parts)) (plain_is_text (q ∷ parts) fits.1);
    }

pub plain_is_line : (said : Said) (line : List ℕ) → AllFit (parts_of said) → line ≡ plain_line said → IsLine said line
plain_is_line said line fits e = record {
  text = plain_line said;
  comment = [];
  whole = rw e (sym (append-nil (plain_line said)));
  words = plain_is_text (parts_of said) fits;
  ended = tt;
}
