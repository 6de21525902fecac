-- The block in the held answer: its name as it goes, and the TNC without it, and with another answer.
use Rattle.std.specs.Prelude.{ℕ, true, Some, None, Option}
use Rattle.ends.specs.declared.name.BlockName.{BlockName}
use Rattle.ends.specs.Frames.{Answer, Cargo, empty, holds, cargo_in}
use Rattle.ends.specs.Blocks.{counts}
use Rattle.ends.specs.Named.{name_of}
use Rattle.ends.specs.Tnc.{Tnc, TncRule, tnc_word, held_number}

abbrev pub name_in : ℕ → ℕ → Cargo → Option BlockName
name_in c n empty = None
name_in c n (holds b) = Some (name_of c n)

abbrev pub gone_name : Tnc → Option BlockName
gone_name t = name_in t.held.channel (held_number t) (cargo_in t.held.reply)

-- what the rule counts
abbrev pub tnc_gone : TncRule → Tnc → Tnc
tnc_gone rule t = record { ready = t.ready; last = t.last; held = t.held; submitted = t.submitted; gone = counts (tnc_word rule t) t.gone }

-- another answer is held
abbrev pub tnc_held : Answer → Tnc → Tnc
tnc_held a t = record { ready = true; last = a.toggle; held = a; submitted = t.submitted; gone = t.gone }
