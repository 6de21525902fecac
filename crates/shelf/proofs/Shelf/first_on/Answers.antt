-- The first place of the channel, or none.
use Rattle.std.proofs.Common.{◌≡◌, ℕ, nat_eq, ap, ◌∙◌}
use Rattle.std.proofs.lemmas.List.{length-map}
use Rattle.std.specs.List.{position}
use Rattle.std.specs.Option.{ok_or}
use Rattle.store.specs.declared.refusal.Refusal.TheVariants.{NoneWaiting}
use Rattle.store.proofs.Places.{place_shown}
use Rattle.store.proofs.Arrivals.{first_found}
use Rattle.shelf.specs.declared.Place.{Place}
use Rattle.shelf.specs.Size.{place_count}
use Rattle.shelf.specs.Shown.{entry, entries}
use Rattle.shelf.proofs.Shelf.first_on.Goals as goal

pub returns : goal.returns
returns c =
    let s = c.args.self.now in
    let at : c.index_of.result ≡ position (λ (p : Place). nat_eq p.channel.number c.args.channel) s.places.items =
    c.index_of.ensures ∙ ap (λ (n : ℕ). position (λ (p : Place). nat_eq p.channel.number n) s.places.items) c.in_ok-channel.ensures.0 in
    first_found (entries s) place_count c.args.channel _ _ c.ok_or.result c.in_ok-channel.ensures.1 (place_shown entry c.args.channel s.places.items) (length-map s.places.items entry) (c.ok_or.ensures.value ∙ ap (λ o. ok_or o NoneWaiting) at)
