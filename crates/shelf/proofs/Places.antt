-- Laws of the shelf's places.
use Rattle.std.proofs.Common.{◌≡◌, ℕ, suc, ◌+◌, ◌-◌, ◌<◌, List, [], ◌∷◌, ◌++◌, map, take, drop, length, get_or, sym, ap}
use Rattle.std.proofs.Common.{◌∙◌, add-one, arith, rules}
use Rattle.std.proofs.Math.Seq.{paste}
use Rattle.std.proofs.lemmas.List.{length-map, length-take-le, length-drop, get_or-map, map-append, take-map, drop-map, take_all}
use Rattle.std.proofs.lemmas.List.Edits.{take-paste}
use Rattle.std.specs.List.{AllByRecursion, remove}
use Rattle.std.proofs.ByRecursion.{All-map}
use Rattle.store.specs.Arrival.{Storable}
use Rattle.shelf.specs.declared.Place.{Place}
use Rattle.shelf.specs.declared.Shelf.{Shelf}
use Rattle.shelf.specs.Shown.{block_of, entry, entries}

pub length_block : (p : Place) → length (block_of p) ≡ p.len
length_block p = length-take-le p.len p.bytes (search rules)

storable_one : (p : Place) → Storable (entry p)
storable_one p =
    let l = length_block p in
    record { channel_low = p.channel.within; some = search rules; short = search rules }

storable_each : (ps : List Place) → AllByRecursion (λ p. Storable (entry p)) ps
storable_each [] = tt
storable_each (p ∷ ps) = (storable_one p, storable_each ps)

pub storable : (s : Shelf) → AllByRecursion Storable (entries s)
storable s = All-map Storable entry s.places.items (storable_each s.places.items)

pub entry_at : (s : Shelf) (i : ℕ) (p : Place) → i < length (entries s) → p ≡ get_or s.places.items i p → get_or (entries s) i (entry p) ≡ entry p
entry_at s i p here is =
    let l = length-map s.places.items entry in
    get_or-map entry s.places.items i p (entry p) (omega arith) ∙ ap entry (sym is)

pub entries_less : (ps : List Place) (i : ℕ) → map entry (remove ps i) ≡ remove (map entry ps) i
entries_less ps i = map-append entry (take i ps) (drop (suc i) ps) ∙ simp (take-map, drop-map)

-- the places after the one at i are moved down over it
pub moved_down :
    (ps : List Place) (i : ℕ) → i < length ps
    → take (length ps - 1) (paste ps i (drop (i + 1) ps) (length ps - (i + 1))) ≡ remove ps i
moved_down ps i h =
    let n = length ps - (i + 1) in
    let rest = drop (i + 1) ps in
    let d = length-drop (i + 1) ps in
    ap (λ (m : ℕ). take m (paste ps i rest n)) (omega arith)
    ∙ take-paste ps i rest n (omega arith) (omega arith)
    ∙ ap (λ (v : List Place). take i ps ++ v) (take_all n rest (omega arith))
    ∙ ap (λ (j : ℕ). take i ps ++ drop j ps) (add-one i)
