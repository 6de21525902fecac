-- The number of each refusal of an end.
use Rattle.std.specs.Prelude.{ℕ}
use Rattle.reader.specs.Fault.{fault_number}
use Rattle.store.specs.Refusal as stores
use Rattle.ends.specs.declared.refusal.Refusal.{Refusal}
use Rattle.ends.specs.declared.refusal.Refusal.TheVariants.{Reader, Store, FlaggedFrame, BeforeReset, NoRoom, ShortWire, NumbersUsed, WrongState, ManyRepeats}

abbrev pub refusal_number : Refusal → ℕ
refusal_number (Reader fault) = fault_number fault.reason
refusal_number (Store refusal) = stores.refusal_number refusal
refusal_number FlaggedFrame = 7
refusal_number BeforeReset = 8
refusal_number NoRoom = 9
refusal_number ShortWire = 14
refusal_number NumbersUsed = 15
refusal_number WrongState = 16
refusal_number ManyRepeats = 18
