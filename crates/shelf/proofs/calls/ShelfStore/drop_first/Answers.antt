-- The places after the one that was found move down over it.
use Rattle.std.proofs.Common.{◌≡◌, ℕ, ◌+◌, ◌-◌, ◌<◌, ◌++◌, List, length, map, take, drop, sym, ap, ◌∙◌, arith, rules}
use Rattle.std.proofs.lemmas.List.{length-map, take_at}
use Rattle.std.specs.List.{copy_within}
use Rattle.store.proofs.Arrivals.{drop_granted}
use Rattle.shelf.specs.declared.Place.{Place}
use Rattle.shelf.specs.Size.{place_count}
use Rattle.shelf.specs.Shown.{entry, entries}
use Rattle.shelf.proofs.Places.{entries_less, moved_down}
use Rattle.shelf.proofs.calls.ShelfStore.drop_first.Goals as goal

pub returns : goal.returns
returns c =
    let s = c.args.self.now in
    let ps = s.places.items in
    let ws = c.copy_within.new.self in
    let i : ℕ = c.in_ok-i.i in
    let here : i < length (entries s) = c.in_ok-i.ensures.here in
    let l = length-map ps entry in
    let wide : length ws ≡ length ps = c.copy_within.ensures.len ∙ ap length c.as_mut_slice.ensures.value in
    let full = take_at ws (drop (length ws) ps) (length ps) wide in
    let n : c.len.result ≡ length ps = c.len.ensures.value ∙ ap length full ∙ wide in
    let moved = c.copy_within.ensures.after
    ∙ ap (λ (v : List Place). copy_within v (i + 1) (length v) i) c.as_mut_slice.ensures.value in
    let p =
    drop_granted (entries s) _ place_count c.args.channel i c.in_ok-i.ensures
    (ap (map entry) (c.truncate.ensures.items ∙ ap (take (c.len.result - 1)) full
    ∙ ap (λ (m : ℕ). take (m - 1) ws) n ∙ ap (take (length ps - 1)) moved
    ∙ moved_down ps i (omega arith))
    ∙ entries_less ps i) in
    record { answer = p.0; after = p.1 }
