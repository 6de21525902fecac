-- The records of an area as they are gone over.
use Rattle.std.specs.Prelude.{ℕ, ◌+◌, List, [], ◌∷◌, length}
use Rattle.store.specs.Arrival.{Entry}
use Rattle.strip.specs.declared.records.Record.{Record}
use Rattle.strip.specs.declared.records.Records.{Records}
use Rattle.strip.specs.Records.{record_of, parsed}

-- records back to back from a place on: where each begins, its channel, and the length of its block
abbrev pub placed : ℕ → List Entry → List Record
placed at [] = []
placed at (x ∷ xs) = record { at = at; channel = x.channel; len = length x.block.bytes } ∷ placed (at + length (record_of x)) xs

-- those that are left to go over
abbrev pub ahead : Records → List Record
ahead r = placed r.at (parsed r.left r.rest.now)
