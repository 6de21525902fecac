-- What is split off is what came before the farewell was submitted, and what came after it.
use Rattle.std.proofs.Common.{◌≡◌, ◌∙◌, ℕ, ◌+◌, ◌-◌, List, length, ap, Vec, take, drop}
use Rattle.std.proofs.lemmas.List.{take_min, drop_min}
use Rattle.order.specs.declared.comparison.Comparison.{Comparison}
use Rattle.order.specs.declared.sheet.OrderPart.{OrderPart}
use Rattle.order.specs.declared.sheet.Sent.{Sent}
use Rattle.order.specs.Blocks.{blocks_of, bytes_of}
use Rattle.order.specs.Comparison.{comparison, copies}
use Rattle.order.specs.Sheet.{order_part}
use Rattle.order.proofs.sheet.OrderPart.of.Goals as goal

abbrev part : Sent → Comparison → ℕ → ℕ → OrderPart
part s came farewells after = record {
  came = record { came = came; len = length s.order.now };
  farewells = farewells;
  strange = came.strange + (after - farewells);
}

part_is : {Z : Type 0} (s : Sent) (all before after : List (Vec ℕ Z)) (n farewells : ℕ) (came : Comparison) (expected : List (List ℕ))
    → before ≡ take n all → after ≡ drop n all → expected ≡ blocks_of s.order.now → came ≡ comparison expected (bytes_of before) → farewells ≡ copies s.farewell.now (bytes_of after)
    → part s came farewells (length after) ≡ order_part s all n
part_is s all before after n farewells came expected front back listed came_is farewells_is =
    let c : came ≡ comparison (blocks_of s.order.now) (bytes_of (take n all)) =
    came_is ∙ ap (λ e. comparison e (bytes_of before)) listed ∙ ap (λ b. comparison (blocks_of s.order.now) (bytes_of b)) front in
    let f : farewells ≡ copies s.farewell.now (bytes_of (drop n all)) = farewells_is ∙ ap (λ a. copies s.farewell.now (bytes_of a)) back in
    ap (λ k. part s k farewells (length after)) c
    ∙ ap (λ k. part s (comparison (blocks_of s.order.now) (bytes_of (take n all))) k (length after)) f
    ∙ ap (λ k. part s (comparison (blocks_of s.order.now) (bytes_of (take n all))) (copies s.farewell.now (bytes_of (drop n all))) (length k)) back

pub returns : goal.returns
returns c =
    let all = c.args.collected.now in
    let n = c.args.before_farewell in
    let front = c.split_at.ensures.front ∙ ap (λ k. take k all) c.min.ensures ∙ take_min n all in
    let back = c.split_at.ensures.back ∙ ap (λ k. drop k all) c.min.ensures ∙ drop_min n all in
    let listed = ap bytes_of c.as_slice.ensures.value ∙ c.in_ok-expected.ensures in
    part_is c.args.sent.now all c.split_at.result.0.now c.split_at.result.1.now n c.copies-farewells.result c.in_ok-came.came (bytes_of c.as_slice.result.now) front back listed c.in_ok-came.ensures.counts c.copies-farewells.ensures
