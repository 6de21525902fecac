-- A line in words.
use Rattle.std.specs.Prelude.{ℕ, Bool, not, List, length, drop, ◌==◌}
use Rattle.std.specs.List.{before_first, position_or_len}
use Rattle.std.specs.Char.{is_ascii_whitespace}

-- a comment begins with `#`
abbrev pub without_comment : List ℕ → List ℕ
without_comment line = before_first (λ b. b == 35) line

-- from the first byte on that parts no words
abbrev pub unblanked : List ℕ → List ℕ
unblanked text = drop (position_or_len (λ b. not (is_ascii_whitespace b)) text) text

-- the first word of a text, empty where there is none, and what comes after it
abbrev pub first_word : List ℕ → List ℕ
first_word text = before_first is_ascii_whitespace (unblanked text)

abbrev pub after_word : List ℕ → List ℕ
after_word text = drop (position_or_len is_ascii_whitespace (unblanked text)) (unblanked text)

abbrev pub has_no_word : List ℕ → Bool
has_no_word text = length (first_word text) == 0
