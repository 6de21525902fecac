-- As many records as there are blocks of the channel.
use Rattle.std.proofs.Common.{nat_eq, length, ap, ◌∙◌, rules, tests}
use Rattle.std.proofs.lemmas.Iterator.Consumers.{YieldsList-from_first, YieldsList-from_filter, count_from_yields_List}
use Rattle.store.proofs.Arrivals.{count_arrived}
use Rattle.strip.specs.declared.records.Record.{Record}
use Rattle.strip.specs.Records.{limit_of}
use Rattle.strip.specs.Walk.{ahead}
use Rattle.strip.specs.Shown.{area_of, records}
use Rattle.strip.proofs.Found.{storable_records}
use Rattle.strip.proofs.Walk.{counted}
use Rattle.strip.proofs.calls.StripStore.count.Goals as goal

pub returns : goal.returns
returns c =
    let s = c.args.self.now in
    count_from_yields_List c.filter.result c.count.result c.count.ensures.ran
    (YieldsList-from_filter _ (λ (r : Record). nat_eq r.channel c.args.channel) (YieldsList-from_first (λ r. r) ahead _ (ap ahead c.filter.ensures.source ∙ c.records.ensures)) c.filter.ensures.closure (λ x r q k. search (rules, tests)))
    ∙ counted c.args.channel 0 (records s)
    ∙ count_arrived (records s) (limit_of (length (area_of s))) c.args.channel (storable_records s)
