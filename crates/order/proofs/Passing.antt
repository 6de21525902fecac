-- What it says that frames are sorted by their places.
use Rattle.std.proofs.Common.{◌≡◌, ℕ, ◌+◌, ◌≤◌, ◌↔◌, inl, inr, Less, Equal, Bool, true, false, List, IsTrue, get_or, refl, sym, ap, ◌∙◌, arith}
use Rattle.std.proofs.lemmas.Bool.{true≢false, cases_lt}
use Rattle.std.proofs.lemmas.List.Sorted.{IsNonDecreasingBy-from_all_adjacent}
use Rattle.std.proofs.lemmas.Map.Keys.{le_from_is_le}
use Rattle.std.specs.Cmp.{nat_cmp_is}
use Rattle.std.specs.List.{IsAllAdjacentAnswer}
use Rattle.std.specs.List.Sorted.{IsNonDecreasingBy}
use Rattle.std.specs.Ordering.{is_le, nat_cmp}
use Rattle.order.specs.declared.line_rule.Passed.{Passed}

le_from : (x y : ℕ) → true ≡ is_le (nat_cmp x y) → x ≤ y
le_from x y h = le_from_is_le x y (sym h)

le_to : (x y : ℕ) → x ≤ y → is_le (nat_cmp x y) ≡ true
le_to x y h = elim (cases_lt x y) [
  | inl less ↦ ap is_le (sym (nat_cmp_is x y Less less))
  | inr more ↦ ap is_le (sym (nat_cmp_is x y Equal (omega arith)))
]

pub sorted_by_place : (frames : List Passed) (r : Bool) → IsAllAdjacentAnswer (λ x y b. b ≡ is_le (nat_cmp x.place y.place)) frames r → IsTrue r ↔ IsNonDecreasingBy (λ p. p.place) frames
sorted_by_place frames true h = ((λ t. IsNonDecreasingBy-from_all_adjacent (λ (p : Passed). p.place) frames (λ k d low. le_from _ _ (h k d low))), (λ up. refl))
sorted_by_place frames false h =
    let d : Passed = record { place = 0; is_whole = true } in
    ((λ no_way. absurd (true≢false (sym no_way))), (λ up. absurd (true≢false (sym (le_to (get_or frames h.0 d).place (get_or frames (h.0 + 1) d).place (up h.0 (h.0 + 1) d (omega arith) h.1)) ∙ sym (h.2 d)))))
