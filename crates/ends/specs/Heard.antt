-- What a byte brings an end: the body that passes its reader with it, if one does.
use Rattle.std.specs.Prelude.{ℕ, List, None, Ok, Err, Option, Result}
use Rattle.reader.specs.declared.fault.Fault.{Fault}
use Rattle.reader.specs.declared.state.Heard.{Heard}
use Rattle.reader.specs.declared.state.Heard.TheVariants.{More, Frame}
use Rattle.reader.specs.Read.{Meaning, Next, passed}
use Rattle.ends.specs.declared.refusal.Refusal.{Refusal}
use Rattle.ends.specs.declared.refusal.Refusal.TheVariants.{Reader}

abbrev pub body_in : Result Heard Fault → Meaning → Option (List ℕ)
body_in (Ok More) m = None
body_in (Ok Frame) m = passed m
body_in (Err fault) m = None

abbrev pub body_heard : Next → Option (List ℕ)
body_heard n = body_in n.says n.then

-- a fault of the reader comes up whole
abbrev pub or_fault : {X : Type 0} → Result Heard Fault → Result X Refusal → Result X Refusal
or_fault (Ok h) r = r
or_fault (Err fault) r = Err (Reader fault)
