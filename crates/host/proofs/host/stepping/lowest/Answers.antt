-- The first channel that counts a block is the lowest that has one.
use Rattle.std.proofs.Common.{◌≡◌, ◌∙◌, rules, tests, refl, sym, subst}
use Rattle.std.specs.List.{find, range_with_len}
use Rattle.std.proofs.lemmas.Iterator.{YieldsList-from_range}
use Rattle.std.proofs.lemmas.Iterator.Search.{find_from_yields_List}
use Rattle.std.proofs.lemmas.Iterator.Adapters.{option_map_id}
use Rattle.ends.specs.Host.{lowest_below}
use Rattle.store.specs.Meaning.{Meaning}
use Rattle.host.proofs.Picks.{has_block, Searched, searched, lowest_is}
use Rattle.host.proofs.host.stepping.lowest.Goals as goal

pub returns : goal.returns
unfolding lowest_below
returns g c =
    let m : Meaning = g.O.Store.meaning c.args.out.now in
    let found : c.find.result ≡ find (has_block m) (range_with_len 0 64) =
    sym (option_map_id c.find.result) ∙ find_from_yields_List (has_block m) _ _ _ c.find.ensures.ran (YieldsList-from_range 0 64 64 refl refl) (λ x b q k. search (rules, tests)) in
    lowest_is m c.find.result c.and_then.result (subst (Searched m) (sym found) (searched m 64 0 refl refl)) c.and_then.ensures
