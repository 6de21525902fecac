-- Which areas are refused, and the refusal's number.
use Rattle.std.specs.Prelude.{ℕ, cond, ◌||◌, Ok, Err, Result, nat_lt}
use Rattle.strip.specs.declared.refusal.AreaRefusal.{AreaRefusal}
use Rattle.strip.specs.declared.refusal.AreaRefusal.TheVariants.{BadSize}
use Rattle.strip.specs.Records.{record_size, longest_area}

abbrev pub refusal_number : AreaRefusal → ℕ
refusal_number BadSize = 17

-- what the check of an area of n bytes answers
abbrev pub check_answer : ℕ → Result (Unit {0}) AreaRefusal
check_answer n = cond (nat_lt n record_size || nat_lt longest_area n) (Err BadSize) (Ok tt)
