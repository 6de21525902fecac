-- All were whole, and no place is below the one before it.
use Rattle.std.proofs.Common.{◌≡◌, false, IsTrue, rules, tests, arith}
use Rattle.std.proofs.lemmas.Bool.{MatchBool-at_true}
use Rattle.std.proofs.lemmas.Fn.{always_returns_same}
use Rattle.std.proofs.lemmas.Iterator.{YieldsList-from_slice, cases_from_all}
use Rattle.order.proofs.Passing.{sorted_by_place}
use Rattle.order.proofs.line_rule.is_kept.Goals as goal

pub returns-then-all : goal.returns-then-all
returns-then-all c =
    let whole = MatchBool-at_true _ _ c.if-all.true (cases_from_all _ _ _ (λ p. IsTrue p.is_whole) (λ p. p.is_whole ≡ false) c.all.ensures.ran (YieldsList-from_slice c.args.passed.now cc) (λ x q k. search (rules, tests)) (λ x q k. search (rules, tests))) in
    let sorted = sorted_by_place c.args.passed.now c.is_sorted_by_key.result (c.is_sorted_by_key.ensures.cases (λ p. p.place) (always_returns_same _ _ _ (λ a r f k. search rules))) in
    ((λ t. (λ k d low. whole k d (omega arith) low, sorted.0 t)), (λ kept. sorted.1 kept.1))
