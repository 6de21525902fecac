-- A test of every index below a bound, which antt computes.
use Rattle.std.proofs.Common.{◌≡◌, ℕ, zero, suc, ◌<◌, Bool, true, false, T, eqb, List, get_or, sym, subst, inl, inr, le_of_suc-le-suc, not-suc-le-zero, eq-or-lt_of_le, eqb→eq}
use Rattle.fcs.specs.Fcs.{eight}

abbrev both : Bool → Bool → Bool
both true b = b
both false b = false

both_left : (a b : Bool) → T (both a b) → T a
both_left true b t = tt
both_left false b t = t

both_right : (a b : Bool) → T (both a b) → T b
both_right true b t = t
both_right false b t = absurd t

-- the test f passes at each index below n
abbrev pub below : (ℕ → Bool) → ℕ → Bool
below f zero = true
below f (suc n) = both (f n) (below f n)

pub passes : (f : ℕ → Bool) (n : ℕ) → T (below f n) → (k : ℕ) → k < n → T (f k)
passes f zero t k h = absurd (not-suc-le-zero h)
passes f (suc n) t k h =
    elim (eq-or-lt_of_le (le_of_suc-le-suc h)) [
      | inl e ↦ subst (λ (m : ℕ). T (f m)) (sym e) (both_left (f n) (below f n) t)
      | inr l ↦ passes f n (both_right (f n) (below f n) t) k l
    ]

-- a table that passes the test has eight steps of each index
pub table_right : (xs : List ℕ) → T (below (λ (k : ℕ). eqb (get_or xs k 0) (eight k)) 256) → (k : ℕ) → k < 256 → get_or xs k 0 ≡ eight k
table_right xs t k h = eqb→eq (get_or xs k 0) (eight k) (passes (λ (m : ℕ). eqb (get_or xs m 0) (eight m)) 256 t k h)
