-- Bytes in hexadecimal digits.
use Rattle.std.specs.Prelude.{ℕ, ◌%◌, ◌==◌, not, if◌then◌else◌, List, [], length, codes, Result, Ok, Err}
use Rattle.std.specs.List.{list_all}
use Rattle.std.specs.Result.{result_unwrap_or}
use Rattle.std.specs.Str.{bytes_eq}
use Rattle.std.specs.Char.{is_ascii_hexdigit}
use Rattle.hex.specs.Hex.{decode_of}
use Rattle.script.specs.declared.unreadable.Unreadable.{Unreadable}
use Rattle.script.specs.declared.unreadable.Unreadable.TheVariants.{MissingWord, OddHex, NoHex}
use Rattle.script.specs.declared.digits.Hex.{Hex}

-- the bytes of digits, two digits each
abbrev pub decoded : List ℕ → List ℕ
decoded digits = result_unwrap_or (decode_of digits) []

-- the bytes that a word is: none for `-`
abbrev pub bytes_in : List ℕ → Result (List ℕ) Unreadable
bytes_in word =
    if length word == 0 then Err MissingWord
    else if bytes_eq word (codes "-") then Ok []
    else if length word % 2 == 1 then Err OddHex
    else if not (list_all is_ascii_hexdigit word) then Err NoHex
    else Ok (decoded word)

-- the bytes that are kept as digits
abbrev pub bytes_of : Hex → List ℕ
bytes_of h = decoded h.digits.now
