-- What the numbers of a comparison say, from the counts that they are made of.
use Rattle.std.proofs.Common.{◌≡◌, ℕ, ◌+◌, ◌-◌, ◌≤◌, ◌↔◌, ◌==◌, ◌&&◌, List, length, count_by, IsTrue, sym, ◌∙◌, subst, arith}
use Rattle.std.proofs.lemmas.Bool.{and_parts, and_from, eqb-true, eq-eqb}
use Rattle.order.specs.declared.comparison.Comparison.{Comparison}
use Rattle.order.specs.Comparison.{number_of, is_surplus, is_strange, is_doubled, is_once, comparison, is_whole, CameAsExpected}
use Rattle.order.proofs.Counting.{balance, split_over, within, none_over, all_once}

-- what the parts count: once, lost, all that is over, and the strange among these
pub record Counts (expected collected : List (List ℕ)) (once lost over strange : ℕ) : Type 0 where
  pub once_is : once ≡ number_of (is_once expected collected) expected
  pub lost_is : lost ≡ number_of (is_surplus expected collected) expected
  pub over_is : over ≡ number_of (is_surplus collected expected) collected
  pub strange_is : strange ≡ count_by (is_strange expected) collected

-- the same of lists that are equal
pub counts_at : {es es' cs cs' : List (List ℕ)} {once lost over strange : ℕ} → es ≡ es' → cs ≡ cs' → Counts es cs once lost over strange → Counts es' cs' once lost over strange
counts_at {es} {es'} {cs} {cs'} {once} {lost} {over} {strange} e d counts =
    subst (λ (xs : List (List ℕ)). Counts xs cs' once lost over strange) e (subst (λ (ys : List (List ℕ)). Counts es ys once lost over strange) d counts)

abbrev pub made : ℕ → ℕ → ℕ → ℕ → Comparison
made once lost over strange = record { once = once; lost = lost; doubled = over - strange; strange = strange }

pub strange_few : (expected collected : List (List ℕ)) (over strange : ℕ) → over ≡ number_of (is_surplus collected expected) collected → strange ≡ count_by (is_strange expected) collected → strange ≤ over
strange_few expected collected over strange over_is strange_is = omega (arith, over_is, strange_is, split_over expected collected)

module _ (expected collected : List (List ℕ)) (once lost over strange : ℕ) (counts : Counts expected collected once lost over strange) where
  few_strange : strange ≤ over
  few_strange = strange_few expected collected over strange counts.over_is counts.strange_is

  doubled_is : over - strange ≡ number_of (is_doubled expected collected) collected
  doubled_is = omega (arith, counts.over_is, counts.strange_is, split_over expected collected)

  pub counted : made once lost over strange ≡ comparison expected collected
  counted =
      let e = counts.once_is in
      let f = counts.lost_is in
      let g = doubled_is in
      let h = counts.strange_is in
      cc

  pub once_counts : over - strange ≡ 0 → once + lost ≡ length expected
  once_counts none = omega (arith, counts.once_is, counts.lost_is, all_once expected collected (sym doubled_is ∙ none))

  pub balances : length collected + lost ≡ length expected + (over - strange + strange)
  balances = omega (arith, counts.lost_is, counts.over_is, few_strange, balance collected expected)

  whole_counts : IsTrue (is_whole (made once lost over strange)) → (lost ≡ 0) × (over ≡ 0)
  whole_counts w =
      let a = and_parts (lost == 0) ((over - strange == 0) && (strange == 0)) w in
      let b = and_parts (over - strange == 0) (strange == 0) a.1 in
      (eqb-true lost 0 a.0, omega (arith, eqb-true (over - strange) 0 b.0, eqb-true strange 0 b.1, few_strange))

  as_expected : IsTrue (is_whole (made once lost over strange)) → CameAsExpected expected collected
  as_expected w = λ b.
      let none = whole_counts w in
      let up = within expected collected (sym counts.lost_is ∙ none.0) b in
      let down = within collected expected (sym counts.over_is ∙ none.1) b in
      omega (arith, up, down)

  none_wrong : CameAsExpected expected collected → IsTrue (is_whole (made once lost over strange))
  none_wrong came =
      let no_loss = counts.lost_is ∙ none_over expected collected (λ b. omega (arith, came b)) in
      let none_more = counts.over_is ∙ none_over collected expected (λ b. omega (arith, came b)) in
      let no_strange : strange ≡ 0 = omega (arith, few_strange, none_more) in
      let no_double : over - strange ≡ 0 = omega (arith, none_more) in
      and_from (lost == 0) ((over - strange == 0) && (strange == 0)) (eq-eqb lost 0 no_loss)
      (and_from (over - strange == 0) (strange == 0) (eq-eqb (over - strange) 0 no_double) (eq-eqb strange 0 no_strange))

  pub whole : IsTrue (is_whole (made once lost over strange)) ↔ CameAsExpected expected collected
  whole = (as_expected, none_wrong)
