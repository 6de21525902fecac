-- What a strip's own facts give of its records.
use Rattle.std.proofs.Common.{◌≡◌, ℕ, ◌+◌, ◌<◌, ◌≤◌, nat_eq, Option, Some, None, Err, Result, MatchResult, length, take, drop, refl, ap, ◌∙◌, arith}
use Rattle.std.specs.List.{AllByRecursion, find}
use Rattle.std.specs.Option.{ok_or}
use Rattle.std.proofs.lemmas.Bool.{cond-false, le-ltb}
use Rattle.poll.specs.Channel.{last_channel}
use Rattle.store.specs.declared.refusal.Refusal.{Refusal}
use Rattle.store.specs.declared.refusal.Refusal.TheVariants.{NoneWaiting}
use Rattle.store.specs.Rules.{first_answer, first_waiting}
use Rattle.store.specs.Arrival.{Storable, place_of}
use Rattle.store.proofs.Places.{on_none}
use Rattle.strip.specs.declared.Strip.{Strip}
use Rattle.strip.specs.declared.records.Record.{Record}
use Rattle.strip.specs.Records.{record_size, limit_of, laid}
use Rattle.strip.specs.Walk.{placed}
use Rattle.strip.specs.Shown.{area_of, records, shown, no_entry, record_at, FirstOn}
use Rattle.strip.proofs.Walk.{FoundAt, found}
use Rattle.strip.proofs.Laid.{length_parsed, Lies, lies, roomy, storable_all}

pub held_is : (s : Strip) → length (records s) ≡ s.held
held_is s = length_parsed s.held (area_of s)

pub storable_records : (s : Strip) → AllByRecursion Storable (records s)
storable_records s = storable_all (records s) s.storable

lies_at : (s : Strip) (k at : ℕ) → k < s.held → at ≡ length (laid (take k (records s))) → Lies (records s) (area_of s) at (record_at s k)
lies_at s k at h e =
    let l = held_is s in
    lies (records s) (drop s.used (area_of s)) (area_of s) k at no_entry s.whole s.storable (omega arith) e

pub room_at : (s : Strip) → (s.held ≡ limit_of (length (area_of s)) → ⊥) → s.used + record_size ≤ length (area_of s)
room_at s ne = roomy s.held s.used (length (area_of s)) (records s) s.storable (held_is s) s.long s.room ne

-- what a search for a channel's first record finds, and whether it is refused
first_found : (s : Strip) (c : ℕ) (o : Option Record) → c ≤ last_channel → FoundAt 0 (records s) (place_of c (records s)) o → MatchResult (ok_or o NoneWaiting) (FirstOn s c) (λ e. first_waiting (shown s) c ≡ Err e)
first_found s c None low h = cond-false _ _ _ (le-ltb last_channel c low) ∙ ap first_answer (on_none c (records s) h)
first_found s c (Some r) low h =
    let l = held_is s in
    let long = s.long in
    let p : ℕ = place_of c (records s) in
    let here = h.0 in
    let from = h.1 in
    let at : r.at ≡ length (laid (take p (records s))) = omega arith in
    let q = lies_at s p r.at (omega arith) at in
    let len = h.2 in
    record {
      first = record { channel_low = low; here = h.0; place = refl };
      at_is = at;
      len_is = len;
      block_is = ap (λ (k : ℕ). take k (drop (r.at + 2) (area_of s))) len ∙ q.block;
      some = (let z = q.some in omega arith);
      short = (let z = q.short in omega arith);
      fits = (let z = q.fits in omega arith);
      inside = (let z = q.inside in omega arith);
      small = s.high;
    }

pub first_or_refused : (s : Strip) (c : ℕ) (r : Result Record Refusal) → c ≤ last_channel → r ≡ ok_or (find (λ x. nat_eq x.channel c) (placed 0 (records s))) NoneWaiting → MatchResult r (FirstOn s c) (λ e. first_waiting (shown s) c ≡ Err e)
first_or_refused s c r low e = rw e (first_found s c (find (λ x. nat_eq x.channel c) (placed 0 (records s))) low (found c 0 (records s)))
