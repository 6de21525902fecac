-- The number of each cause of a fall.
use Rattle.std.specs.Prelude.{ℕ}
use Rattle.host.specs.declared.answer.Cause.{Cause}
use Rattle.host.specs.declared.answer.Cause.TheVariants.{RepeatsUsed, SpareUsed, WrongAnswer}

abbrev pub cause_number : Cause → ℕ
cause_number RepeatsUsed = 1
cause_number SpareUsed = 2
cause_number WrongAnswer = 3
