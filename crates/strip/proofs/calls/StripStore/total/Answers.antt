-- As many wait as records are held.
use Rattle.std.proofs.Common.{length, sym, ◌∙◌}
use Rattle.store.proofs.Arrivals.{total_arrived}
use Rattle.strip.specs.Records.{limit_of}
use Rattle.strip.specs.Shown.{area_of, records}
use Rattle.strip.proofs.Found.{held_is, storable_records}
use Rattle.strip.proofs.calls.StripStore.total.Goals as goal

pub returns-clause-value : goal.returns-clause-value
returns-clause-value c =
    let s = c.args.self.now in
    sym (total_arrived (records s) (limit_of (length (area_of s))) (storable_records s) ∙ held_is s)
