-- As many places as there are blocks of the channel.
use Rattle.std.proofs.Common.{◌≡◌, nat_eq, sym, ◌∙◌, rules}
use Rattle.std.specs.List.{count_by}
use Rattle.store.proofs.Places.{count_shown}
use Rattle.store.proofs.Arrivals.{count_arrived}
use Rattle.shelf.specs.declared.Place.{Place}
use Rattle.shelf.specs.Size.{place_count}
use Rattle.shelf.specs.Shown.{entry, entries}
use Rattle.shelf.proofs.Places.{storable}
use Rattle.shelf.proofs.calls.ShelfStore.count.Goals as goal

pub returns : goal.returns
returns c =
    let s = c.args.self.now in
    let counted : c.count.result ≡ count_by (λ (p : Place). nat_eq p.channel.number c.args.channel) s.places.items = search rules in
    counted ∙ sym (count_shown entry c.args.channel s.places.items) ∙ count_arrived (entries s) place_count c.args.channel (storable s)
