-- What an ear knows.
use Rattle.std.specs.Prelude.{Bool, true, false}
use Rattle.frame.specs.declared.form.Direction.{Direction}
use Rattle.frame.specs.declared.form.Direction.TheVariants.{FromHost, FromTnc}
use Rattle.reader.specs.Read.{Meaning, meaning}
use Rattle.ends.specs.declared.ear.Ear.{Ear}

abbrev pub heard_by : Ear → Meaning
heard_by e = meaning e.reader

-- whose frames it hears, as a test
abbrev pub hears_tnc : Direction → Bool
hears_tnc FromHost = false
hears_tnc FromTnc = true
