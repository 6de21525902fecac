-- What is pushed is the last that arrived.
use Rattle.std.proofs.Common.{◌≡◌, ℕ, List, [], ◌∷◌, ◌++◌, map, length, ap, sym, ◌∙◌, rules}
use Rattle.std.proofs.lemmas.List.{length-map, map_push}
use Rattle.store.specs.Meaning.{plain}
use Rattle.store.specs.Arrival.{Entry}
use Rattle.store.proofs.Arrivals.{put_granted, put_full}
use Rattle.shelf.specs.Size.{place_count}
use Rattle.shelf.specs.Shown.{entry, entries}
use Rattle.shelf.proofs.Places.{storable}
use Rattle.shelf.proofs.calls.ShelfStore.put.Goals as goal

pub returns-then-is_full : goal.returns-then-is_full
returns-then-is_full c =
    let s = c.args.self.now in
    let full : length s.places.items ≡ place_count = search rules in
    let p = put_full (entries s) place_count c.args.channel (plain c.args.block.now) (storable s) c.in_ok-channel.ensures.1 c.in_ok-block.ensures.0 c.in_ok-block.ensures.1 (length-map s.places.items entry ∙ full) in
    record { answer = p.0; after = p.1 }

pub returns : goal.returns
returns c =
    let s = c.args.self.now in
    let room : length s.places.items ≡ place_count → ⊥ = search rules in
    let p =
    put_granted (entries s) _ place_count c.args.channel (plain c.args.block.now) (storable s) c.in_ok-channel.ensures.1 c.in_ok-block.ensures.0 c.in_ok-block.ensures.1 (λ e. room (sym (length-map s.places.items entry) ∙ e))
    (ap (map entry) c.push.ensures.items ∙ map_push entry s.places.items _
    ∙ ap (λ (x : Entry). entries s ++ x ∷ []) c.with.ensures
    ∙ ap (λ (n : ℕ). entries s ++ record { channel = n; block = plain c.args.block.now } ∷ []) c.in_ok-channel.ensures.0) in
    record { answer = p.0; after = p.1 }
