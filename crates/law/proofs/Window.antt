-- What a line may still pass, with hidden numbers in order, and counts over it.
use Rattle.std.proofs.Common.{◌≡◌, ℕ, zero, suc, ◌+◌, ◌<◌, ◌≤◌, Bool, true, false, List, [], ◌∷◌, ◌++◌, length, get_or, drop, refl, ap, not-suc-le-zero, arith}
use Rattle.law.proofs.Line.{Line, item, line_le}
use Rattle.law.proofs.Count.{one, cnt}

module _ {A : Type 0} where
  -- x passes: what was skipped, x, and the rest
  pub split : (W : List A) (at i : ℕ) (d : A) → at ≤ i → i < length W → (s : List A) × (drop at W ≡ s ++ get_or W i d ∷ drop (suc i) W)
  split [] at i d h g = absurd (not-suc-le-zero g)
  split (x ∷ xs) zero zero d h g = ([], refl)
  split (x ∷ xs) zero (suc i) d h g = let r = split xs zero i d (omega arith) (omega arith) in (x ∷ r.0, ap (λ (l : List A). x ∷ l) r.1)
  split (x ∷ xs) (suc at) zero d h g = absurd (not-suc-le-zero h)
  split (x ∷ xs) (suc at) (suc i) d h g = split xs at i d (omega arith) (omega arith)

  pub line_pass : {Q : ℕ → A → Type 0} {hi lo : ℕ} (s : List A) {x : A} {r : List A} → Line Q hi lo (s ++ x ∷ r) → (k : ℕ) × (lo ≤ k) × (k ≤ hi) × Q k x × Line Q hi k r
  line_pass [] (item k a q l) = (k, a, line_le l, q, l)
  line_pass (y ∷ s) (item k a q l) = let p = line_pass s l in (p.0, omega arith, p.2, p.3, p.4)

  pub cnt_split : (p : A → Bool) (s : List A) (x : A) (r : List A) → cnt p r + one (p x) ≤ cnt p (s ++ x ∷ r)
  cnt_split p [] x r = omega arith
  cnt_split p (y ∷ s) x r = let h = cnt_split p s x r in omega arith

  pub cnt_all : (p : A → Bool) (xs : List A) → cnt p xs ≤ cnt (λ (x : A). true) xs
  cnt_all p [] = omega arith
  cnt_all p (x ∷ xs) = let h = cnt_all p xs in let g = le (p x) in omega arith
    where
      le : (b : Bool) → one b ≤ 1
      le true = omega arith
      le false = omega arith
