-- One record more at the end, and nothing else written.
use Rattle.std.proofs.Common.{ℕ, ◌+◌, List, [], ◌∷◌, ◌++◌, length, sym, refl, ap, ◌∙◌, arith, rules}
use Rattle.store.specs.Meaning.{Meaning, plain}
use Rattle.store.specs.Arrival.{Entry, arrived}
use Rattle.store.proofs.Arrivals.{put_granted, put_full}
use Rattle.strip.specs.Records.{limit_of, parsed}
use Rattle.strip.specs.Shown.{area_of, records}
use Rattle.strip.proofs.Found.{held_is, storable_records, room_at}
use Rattle.strip.proofs.Laid.{put_holds, Holds}
use Rattle.strip.proofs.calls.StripStore.put.Goals as goal
use Rattle.strip.proofs.calls.StripStore.put.Goals.{After-write}

holds : (c : goal.After-write) → Holds (records c.args.self.now ++ record { channel = c.args.channel; block = plain c.args.block.now } ∷ []) (area_of c.args.self.now) c.write.new.area (c.args.self.now.held + 1) (c.args.self.now.used + (length c.args.block.now + 2))
holds c =
    put_holds (area_of c.args.self.now) c.write.new.area c.args.self.now.held c.args.self.now.used _ c.args.channel c.args.block.now
    c.args.self.now.storable c.args.self.now.long c.args.self.now.whole c.in_ok-channel.ensures.1 c.in_ok-block.ensures.0 c.in_ok-block.ensures.1 (omega arith) c.write.ensures.after

pub returns-then-self : goal.returns-then-self
returns-then-self c =
    let s = c.args.self.now in
    let p = put_full (records s) (limit_of (length (area_of s))) c.args.channel (plain c.args.block.now) (storable_records s) c.in_ok-channel.ensures.1 c.in_ok-block.ensures.0 c.in_ok-block.ensures.1 (held_is s ∙ c.if-self.true) in
    record { answer = p.0; after = p.1; order = refl; area = search rules }

pub write-requires-clause-fits : goal.write-requires-clause-fits
write-requires-clause-fits c = room_at c.args.self.now c.if-self.false

pub invariant_of-self : goal.invariant_of-self
invariant_of-self c =
    let len = c.write.ensures.len in
    let q = holds c in
    record { low = search rules; high = search rules; room = search rules; storable = q.storable; long = q.long; whole = q.whole }

pub returns : goal.returns
returns c =
    let s = c.args.self.now in
    let q = holds (goal.at.returns c).After-write in
    let ws : List Entry = parsed (c.args.self.now.held + 1) c.write.new.area in
    let p =
    put_granted (records s) ws (limit_of (length (area_of s))) c.args.channel (plain c.args.block.now) (storable_records s) c.in_ok-channel.ensures.1 c.in_ok-block.ensures.0 c.in_ok-block.ensures.1 (λ e. c.if-self.false (sym (held_is s) ∙ e)) q.items in
    let f : ℕ → Meaning = λ n. arrived ws (limit_of n) in
    record { answer = p.0; after = ap f c.write.ensures.len ∙ p.1; order = q.items; area = q.only }
