-- What each way of naming a block says.
use Rattle.std.specs.Prelude.{ℕ, Some, None, Option}
use Rattle.ends.specs.declared.name.BlockName.{BlockName}
use Rattle.ends.specs.declared.name.Went.{Went}
use Rattle.ends.specs.declared.name.Went.TheVariants.{Confirmed, Doubtful}
use Rattle.ends.specs.Blocks.{Word, silent, confirms, doubts}

abbrev pub name_of : ℕ → ℕ → BlockName
name_of c n = record { channel = c; number = n }

-- a word as an answer has it, and what an answer says
abbrev pub went_by : Word → Option Went
went_by silent = None
went_by (confirms c n) = Some (Confirmed (name_of c n))
went_by (doubts c n) = Some (Doubtful (name_of c n))

abbrev pub word_of : Option Went → Word
word_of None = silent
word_of (Some (Confirmed b)) = confirms b.channel b.number
word_of (Some (Doubtful b)) = doubts b.channel b.number
