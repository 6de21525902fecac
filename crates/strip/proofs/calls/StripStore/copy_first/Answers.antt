-- The block of the record that was found.
use Rattle.std.proofs.Common.{◌≡◌, ℕ, ◌+◌, ◌-◌, List, ◌++◌, length, take, drop, refl, ap, ◌∙◌, arith, rules}
use Rattle.store.specs.Arrival.{place_of}
use Rattle.store.proofs.Arrivals.{copied}
use Rattle.strip.specs.Records.{limit_of}
use Rattle.strip.specs.Shown.{area_of, records, no_entry, record_at}
use Rattle.strip.proofs.calls.StripStore.copy_first.Goals as goal

pub returns : goal.returns
returns c =
    let s = c.args.self.now in
    let f = c.in_ok-record.ensures in
    let i : ℕ = place_of c.args.channel (records s) in
    let n : ℕ = c.in_ok-record.record.len in
    let start : ℕ = c.in_ok-record.record.at + 2 in
    let part : start + n - start ≡ n = omega arith in
    let p =
    copied (records s) (limit_of (length (area_of s))) c.args.channel c.args.buffer.now _ i n no_entry (record_at s i) c.in_ok-buffer.ensures f.first refl f.len_is
    (ap (λ (v : List ℕ). v ++ drop n c.args.buffer.now) (c.copy_from_slice.ensures.after ∙ ap (λ (k : ℕ). take k (drop start (area_of s))) part ∙ f.block_is)) in
    record { answer = p.0; buffer = p.1; sized = search rules }
