-- Why a line can't be read, in words.
use Rattle.std.specs.Prelude.{ℕ, List, codes}
use Rattle.script.specs.declared.unreadable.Unreadable.{Unreadable}
use Rattle.script.specs.declared.unreadable.Unreadable.TheVariants.{UnknownWord, MissingWord, SpareWord, NoNumber, LargeNumber, OddHex, NoHex, LateSetup}

abbrev pub why : Unreadable → List ℕ
why UnknownWord = codes "unknown word"
why MissingWord = codes "a word is missing"
why SpareWord = codes "a word too many"
why NoNumber = codes "not a number"
why LargeNumber = codes "the number is too large"
why OddHex = codes "an odd number of hexadecimal digits"
why NoHex = codes "not hexadecimal digits"
why LateSetup = codes "a set-up after the first call"
