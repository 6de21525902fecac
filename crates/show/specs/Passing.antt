-- Whether a frame passed at an end's reader, by what the end answers for the byte.
use Rattle.std.specs.Prelude.{Bool, true, false, is_some, Option, Result, Ok, Err}
use Rattle.ends.specs.declared.refusal.Refusal.{Refusal}
use Rattle.ends.specs.declared.refusal.Refusal.TheVariants.{Reader, ShortWire}

abbrev pub has_passed : {X : Type 0} → Result (Option X) Refusal → Bool
has_passed (Ok rule) = is_some rule
has_passed (Err (Reader fault)) = false
has_passed (Err ShortWire) = false
has_passed (Err refusal) = true
