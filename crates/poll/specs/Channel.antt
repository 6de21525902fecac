-- The number of the highest channel, and how many there are.
use Rattle.std.specs.Prelude.{ℕ, ◌+◌}

abbrev pub last_channel : ℕ
last_channel = 63

abbrev pub channels : ℕ
channels = last_channel + 1
