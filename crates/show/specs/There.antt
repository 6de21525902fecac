-- The channel that all blocks of the session go by.
use Rattle.std.specs.Prelude.{ℕ}

abbrev pub own_channel : ℕ
own_channel = 33
