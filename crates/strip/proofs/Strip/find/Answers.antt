-- The search goes through the records in order.
use Rattle.std.proofs.Common.{◌≡◌, nat_eq, Option, Some, None, refl, sym, ◌∙◌, rules, tests}
use Rattle.std.specs.Option.{option_map}
use Rattle.std.proofs.lemmas.Iterator.Search.{find_from_yields_List}
use Rattle.std.proofs.lemmas.Iterator.Consumers.{YieldsList-from_first}
use Rattle.strip.specs.declared.records.Record.{Record}
use Rattle.strip.specs.Walk.{ahead}
use Rattle.strip.proofs.Strip.find.Goals as goal

same : (o : Option Record) → option_map (λ (r : Record). r) o ≡ o
same None = refl
same (Some r) = refl

pub returns : goal.returns
returns c =
    sym (same c.find.result)
    ∙ find_from_yields_List (λ (r : Record). nat_eq r.channel c.args.channel) c.find.new.self _ c.find.result c.find.ensures.ran (YieldsList-from_first (λ r. r) ahead _ c.records.ensures) (λ x b q k. search (rules, tests))
