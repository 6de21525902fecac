-- The numbers at which the ends' counters stop, and the highest setting of repeats.
use Rattle.std.specs.Prelude.{ℕ}

-- the highest number of a block on its channel: no more are submitted, and the count of gone ones stops there
abbrev pub last_number : ℕ
last_number = 4294967295

-- the highest spare count: it is not lowered from there
abbrev pub last_spare : ℕ
last_spare = 65535

abbrev pub most_repeats : ℕ
most_repeats = 15
