-- One record less, the later ones moved down, and nothing else written.
use Rattle.std.proofs.Common.{ℕ, ◌+◌, ◌-◌, List, length, drop, ap, ◌∙◌, arith, rules}
use Rattle.std.specs.List.{remove}
use Rattle.store.specs.Meaning.{Meaning}
use Rattle.store.specs.Arrival.{Entry, arrived, place_of}
use Rattle.store.proofs.Arrivals.{drop_granted}
use Rattle.strip.specs.Records.{limit_of, parsed}
use Rattle.strip.specs.Shown.{area_of, records, no_entry}
use Rattle.strip.proofs.Found.{held_is}
use Rattle.strip.proofs.Laid.{drop_holds, Holds}
use Rattle.strip.proofs.calls.StripStore.drop_first.Goals as goal
use Rattle.strip.proofs.calls.StripStore.drop_first.Goals.{After-copy_within}

holds : (c : goal.After-copy_within) → Holds (remove (records c.args.self.now) (place_of c.args.channel (records c.args.self.now))) (area_of c.args.self.now) c.copy_within.new.self (c.args.self.now.held - 1) (c.args.self.now.used - (c.in_ok-record.record.len + 2))
holds c =
    let s = c.args.self.now in
    let f = c.in_ok-record.ensures in
    let len = f.len_is in
    let fits = f.fits in
    let r = c.in_ok-record.record in
    drop_holds (records s) (drop s.used (area_of s)) (area_of s) c.copy_within.new.self (place_of c.args.channel (records s)) r.at (r.at + 2 + r.len) s.used (s.used - (r.len + 2)) s.held no_entry
    s.whole s.storable (held_is s) s.long f.first.here f.at_is (omega arith) (omega arith) c.copy_within.ensures.after

pub invariant_of-self : goal.invariant_of-self
invariant_of-self c =
    let len = c.copy_within.ensures.len in
    let q = holds (goal.at.invariant_of-self c).After-copy_within in
    record { low = search rules; high = search rules; room = search rules; storable = q.storable; long = q.long; whole = q.whole }

pub returns : goal.returns
returns c =
    let s = c.args.self.now in
    let q = holds (goal.at.returns c).After-copy_within in
    let ws : List Entry = parsed (s.held - 1) c.copy_within.new.self in
    let p = drop_granted (records s) ws (limit_of (length (area_of s))) c.args.channel (place_of c.args.channel (records s)) c.in_ok-record.ensures.first q.items in
    let f : ℕ → Meaning = λ n. arrived ws (limit_of n) in
    record { answer = p.0; after = ap f c.copy_within.ensures.len ∙ p.1; order = p.2; area = q.only }
