-- What `find` finds, by its place, and a list from which an element was taken and put back.
use Rattle.std.proofs.Common.{◌≡◌, ℕ, ◌≤◌, ◌∙◌, refl, sym, ap, Bool, List, [], ◌∷◌, length, Some, None, Option, option_and_then, slice_get, insert, remove, zero, suc, arith}
use Rattle.std.specs.List.{find, position, position_or_len}
use Rattle.std.proofs.lemmas.List.Folds.{find_at}
use Rattle.std.proofs.lemmas.Option.{slice_get_past}
use Rattle.std.proofs.lemmas.Grind.{common_steps}

no_place : {X : Type 0} (p : X → Bool) (xs : List X) → position p xs ≡ None → length xs ≤ position_or_len p xs
no_place p xs h = grind (arith, common_steps)

some_place : {X : Type 0} (p : X → Bool) (xs : List X) (i : ℕ) → position p xs ≡ Some i → i ≡ position_or_len p xs
some_place p xs i h = grind (arith, common_steps)

-- by what `position` answers
found_by : {X : Type 0} (p : X → Bool) (xs : List X) (o : Option ℕ) → position p xs ≡ o → find p xs ≡ option_and_then (slice_get xs) o
found_by p xs None h = find_at p xs ∙ slice_get_past xs (position_or_len p xs) (no_place p xs h)
found_by p xs (Some i) h = find_at p xs ∙ sym (ap (slice_get xs) (some_place p xs i h))

pub found_at_place : {X : Type 0} (p : X → Bool) (xs : List X) → find p xs ≡ option_and_then (slice_get xs) (position p xs)
found_at_place p xs = found_by p xs (position p xs) refl

pub insert-remove : {X : Type 0} (xs : List X) (i : ℕ) (x : X) → slice_get xs i ≡ Some x → insert (remove xs i) i x ≡ xs
insert-remove [] i x h = absurd (cc)
insert-remove {X = X} (y ∷ xs) zero x h = let same : x ≡ y = cc in ap (λ (z : X). z ∷ xs) same
insert-remove (y ∷ xs) (suc i) x h = ap (λ rest. y ∷ rest) (insert-remove xs i x h)
