-- Decimal numbers.
use Rattle.std.specs.Prelude.{ℕ, ◌^◌, ◌==◌, nat_lt, not, if◌then◌else◌, List, length, Option, Some, None, Result, Err}
use Rattle.std.specs.List.{list_all}
use Rattle.std.specs.Option.{ok_or}
use Rattle.std.specs.Char.{is_ascii_digit}
use Rattle.std.specs.Str.Parse.{digits_value}
use Rattle.script.specs.declared.unreadable.Unreadable.{Unreadable}
use Rattle.script.specs.declared.unreadable.Unreadable.TheVariants.{MissingWord, NoNumber, LargeNumber}

-- what digits are worth, where 64 bits hold it
abbrev pub value_of : List ℕ → Option ℕ
value_of digits =
    if nat_lt (digits_value 10 digits) (2 ^ 64) then Some (digits_value 10 digits) else None

-- digits alone are a number
abbrev pub number_in : List ℕ → Result ℕ Unreadable
number_in word =
    if length word == 0 then Err MissingWord
    else if not (list_all is_ascii_digit word) then Err NoNumber
    else ok_or (value_of word) LargeNumber
