-- One channel more is marked, and at the end all are.
use Rattle.std.proofs.Common.{◌≡◌, ℕ, ◌+◌, ltb, take, set, length-set, sym, refl, ap, ◌∙◌, arith}
use Rattle.std.proofs.lemmas.List.{take_all}
use Rattle.store.specs.Rules.{count_on}
use Rattle.ends.specs.Tnc.{waiting_to}
use Rattle.tnc.proofs.Waiting.{none_yet, one_more}
use Rattle.tnc.proofs.held.listing.waiting.Goals as goal

pub loop-channel-init : goal.loop-channel-init
loop-channel-init g c = record { size = refl; marks = none_yet (g.O.Store.meaning c.args.out.now).waiting }

pub loop-channel-preserved : goal.loop-channel-preserved
loop-channel-preserved g c =
    let m = g.O.Store.meaning c.args.out.now in
    let k = c.loop-channel.channel in
    let was = c.loop-channel.waiting in
    let i = c.loop-channel.invariant in
    let here : set was c.from.result (ltb 0 c.count.result) ≡ set was k (ltb 0 (count_on m k)) = ap (λ (n : ℕ). set was n (ltb 0 c.count.result)) c.from.ensures ∙ ap (λ (n : ℕ). set was k (ltb 0 n)) c.count.ensures in
    record {
      size = length-set _ _ _ ∙ i.size;
      marks = ap (take (k + 1)) here ∙ one_more m was k (omega (arith, i.size)) (omega arith) i.marks;
    }

pub returns : goal.returns
returns g c =
    let i = c.loop-channel.invariant in
    let all : c.loop-channel.channel ≡ 64 = omega arith in
    sym (take_all c.loop-channel.channel c.loop-channel.waiting (omega (arith, i.size))) ∙ i.marks ∙ ap (λ (n : ℕ). waiting_to n (g.O.Store.meaning c.args.out.now).waiting) all
