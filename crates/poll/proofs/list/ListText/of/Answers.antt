-- One more channel written or passed over, and the laws of the whole list.
use Rattle.std.proofs.Common.{◌≡◌, ℕ, ◌+◌, ◌<◌, List, ◌++◌, length, take, drop, sym, ap, ◌∙◌, subst, arith, length-set}
use Rattle.poll.specs.List.{GoodList, listed_from, list_of, Names, Ascends}
use Rattle.poll.proofs.ListLaws.{good, names, ascends, list_more, list_same, list_all}
use Rattle.poll.proofs.list.ListText.of.Goals as goal
use Rattle.poll.proofs.list.ListText.of.Goals.{then-waits, else-waits}

pub loop-place-preserved : goal.loop-place-preserved
loop-place-preserved c =
    let ws = c.args.waiting.now in
    let i = c.loop-place.place in
    let vs = c.loop-place.values in
    let n = c.loop-place.len in
    let inv = c.loop-place.invariant in
    let l : i < length ws = omega (arith, c.told-waiting) in
    let h : n < length vs = omega (arith, inv.0, inv.1) in
    elim c.if-waits.branch [
      | then-waits w ↦
          let e : w.value.result ≡ i + 1 = omega arith in
          let q = list_more vs n w.value.result ws i (list_of ws) h l w.if-waits.true e inv.2 in (
            ap length w.values-is ∙ length-set vs n w.value.result ∙ inv.0,
            omega (arith, w.len-is, inv.1),
            ap (λ (k : ℕ). take k c.if-waits.values ++ listed_from (i + 1) (drop (i + 1) ws)) w.len-is
                ∙ ap (λ (xs : List ℕ). take (n + 1) xs ++ listed_from (i + 1) (drop (i + 1) ws)) w.values-is
                ∙ q,
          )
      | else-waits w ↦ (
        ap length w.values-is ∙ inv.0,
        omega (arith, w.len-is, inv.1),
        ap (λ (k : ℕ). take k c.if-waits.values ++ listed_from (i + 1) (drop (i + 1) ws)) w.len-is
            ∙ ap (λ (xs : List ℕ). take n xs ++ listed_from (i + 1) (drop (i + 1) ws)) w.values-is
            ∙ list_same (take n vs) ws i (list_of ws) l w.if-waits.false inv.2,
      )
    ]

pub returns : goal.returns
returns c =
    let ws = c.args.waiting.now in
    let i = c.loop-place.place in
    let e = list_all _ ws i (list_of ws) (omega (arith, c.told-waiting)) c.loop-place.invariant.2 in
    record {
      value = e;
      good = subst GoodList (sym e) (good ws c.told-waiting);
      names = subst (Names ws) (sym e) (names ws c.told-waiting);
      ascends = subst Ascends (sym e) (ascends ws 0);
    }
