-- How many frames of a line pass a test.
use Rattle.std.proofs.Common.{◌≡◌, ℕ, ◌+◌, ◌≤◌, Bool, true, false, List, [], ◌∷◌, ◌++◌, refl, ap, arith}
use Rattle.law.proofs.Line.{Line, none, item, line_le}

abbrev pub one : Bool → ℕ
one true = 1
one false = 0

module _ {A : Type 0} where
  abbrev pub cnt : (A → Bool) → List A → ℕ
  cnt p [] = 0
  cnt p (x ∷ xs) = one (p x) + cnt p xs

  pub cnt_snoc : (p : A → Bool) (xs : List A) (x : A) → cnt p (xs ++ x ∷ []) ≡ cnt p xs + one (p x)
  cnt_snoc p [] x = omega arith
  cnt_snoc p (y ∷ ys) x = let h = cnt_snoc p ys x in omega arith

  -- two tests that agree on the line, and one that nothing passes
  pub cnt_agree : {Q : ℕ → A → Type 0} {hi lo : ℕ} {fs : List A} (p q : A → Bool) → ((k : ℕ) (f : A) → lo ≤ k → k ≤ hi → Q k f → p f ≡ q f) → Line Q hi lo fs → cnt p fs ≡ cnt q fs
  cnt_agree p q e (none h) = refl
  cnt_agree {lo = lo} p q e (item {f = f} k a x l) =
      let h = cnt_agree p q (λ j g b. e j g (omega arith)) l in
      let y : one (p f) ≡ one (q f) = ap one (e k f a (line_le l) x) in omega arith

  pub cnt_none : (xs : List A) → cnt (λ (x : A). false) xs ≡ 0
  cnt_none [] = refl
  cnt_none (x ∷ xs) = let h = cnt_none xs in omega arith
