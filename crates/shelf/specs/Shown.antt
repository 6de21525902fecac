-- What the shelf's places mean.
use Rattle.std.specs.Prelude.{ℕ, List, map, take, replicate}
use Rattle.frame.specs.Frame.{longest_block}
use Rattle.store.specs.Meaning.{Meaning, plain}
use Rattle.store.specs.Arrival.{Entry, arrived}
use Rattle.shelf.specs.declared.Place.{Place}
use Rattle.shelf.specs.declared.Shelf.{Shelf}
use Rattle.shelf.specs.Size.{place_count}

-- the bytes that a place holds, and the block with its channel
abbrev pub block_of : Place → List ℕ
block_of p = take p.len p.bytes

abbrev pub entry : Place → Entry
entry p = record { channel = p.channel.number; block = plain (block_of p) }

-- what an unused part of the shelf's memory holds
abbrev pub blank : Entry
blank = record { channel = 0; block = plain (replicate longest_block 0) }

-- the blocks on the shelf, in order of arrival
abbrev pub entries : Shelf → List Entry
entries s = map entry s.places.items

abbrev pub shown : Shelf → Meaning
shown s = arrived (entries s) place_count
