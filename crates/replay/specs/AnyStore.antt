-- A store of either kind: what it means is what the one that it is means.
use Rattle.std.specs.Prelude.{ℕ, List, Option, Some, None}
use Rattle.store.specs.Meaning.{Meaning}
use Rattle.shelf.specs.Shown as shelf
use Rattle.strip.specs.Shown as strip
use Rattle.replay.specs.declared.any_store.AnyStore.{AnyStore}
use Rattle.replay.specs.declared.any_store.AnyStore.TheVariants.{Shelf, Strip}

abbrev pub meaning_of : AnyStore → Meaning
meaning_of (Shelf s) = shelf.shown s
meaning_of (Strip s) = strip.shown s

-- all bytes of its area, if it has one
abbrev pub area_in : AnyStore → Option (List ℕ)
area_in (Shelf s) = None
area_in (Strip s) = Some (strip.area_of s)
