-- The channels seen among the values read so far: how many they are, and what they say of the values.
use Rattle.std.proofs.Common.{◌≡◌, ℕ, zero, suc, ◌+◌, ◌<◌, ◌≤◌, Bool, true, false, cond, List, [], ◌∷◌, ◌++◌, length, get_or, set, replicate, sym, refl, ap, ◌∙◌, inl, inr, arith}
use Rattle.std.proofs.lemmas.List.{get_or-set_same, get_or-set_other, get_or_append_left, get_or_push, length_push}
use Rattle.std.proofs.lemmas.Bool.{cases_lt, cases_eq, both_ways}
use Rattle.poll.specs.List.{Fresh, Names}

-- how many places are marked
abbrev pub trues : List Bool → ℕ
trues [] = 0
trues (b ∷ bs) = cond b (trues bs + 1) (trues bs)

pub trues_le : (bs : List Bool) → trues bs ≤ length bs
trues_le [] = omega arith
trues_le (true ∷ bs) = omega (arith, trues_le bs)
trues_le (false ∷ bs) = omega (arith, trues_le bs)

-- an unmarked place leaves room
pub trues_lt : (bs : List Bool) (p : ℕ) → p < length bs → get_or bs p false ≡ false → trues bs < length bs
trues_lt [] p h e = omega arith
trues_lt (true ∷ bs) zero h e = let z : ◌≡◌ {A = ℕ} 0 1 = cc in omega arith
trues_lt (false ∷ bs) zero h e = omega (arith, trues_le bs)
trues_lt (true ∷ bs) (suc p) h e = omega (arith, trues_lt bs p (omega arith) e)
trues_lt (false ∷ bs) (suc p) h e = omega (arith, trues_lt bs p (omega arith) e)

pub trues_set : (bs : List Bool) (p : ℕ) → p < length bs → get_or bs p false ≡ false → trues (set bs p true) ≡ trues bs + 1
trues_set [] p h e = omega arith
trues_set (true ∷ bs) zero h e = let z : ◌≡◌ {A = ℕ} 0 1 = cc in omega arith
trues_set (false ∷ bs) zero h e = refl
trues_set (true ∷ bs) (suc p) h e = ap (λ (n : ℕ). n + 1) (trues_set bs p (omega arith) e)
trues_set (false ∷ bs) (suc p) h e = trues_set bs p (omega arith) e

-- before the first value no channel is marked
unmarked : (n c : ℕ) → get_or (replicate n false) c false ≡ false
unmarked zero c = refl
unmarked (suc n) zero = refl
unmarked (suc n) (suc c) = unmarked n c

pub names_none : (n : ℕ) → Names (replicate n false) []
names_none n c l = ((λ t. absurd (both_ways (get_or (replicate n false) c false) (unmarked n c) t)), (λ t k h e. omega arith))

-- one value more that is not v
pub fresh_push : (xs : List ℕ) (u v : ℕ) → (u ≡ v → ⊥) → Fresh xs v → Fresh (xs ++ u ∷ []) v
fresh_push xs u v n f k h e =
    elim (cases_lt k (length xs)) [
      | inl l ↦ f k l (sym (get_or_append_left xs (u ∷ []) 0 k l) ∙ e)
      | inr l ↦ n (sym (get_or_push xs u 0 k (omega (arith, length_push xs u))) ∙ e)
    ]

-- one value more, and the mark of its channel
pub names_more : (seen : List Bool) (xs : List ℕ) (p v : ℕ) → p < length seen → p + 1 ≡ v → Names seen xs → Names (set seen p true) (xs ++ v ∷ [])
names_more seen xs p v h e names c l =
    elim (cases_eq c p) [
      | inl q ↦ (
        (λ _. (length xs, omega (arith, length_push xs v), get_or_push xs v 0 (length xs) refl ∙ omega arith)),
        (λ t. absurd (both_ways (get_or (set seen p true) c false) t (ap (λ (j : ℕ). get_or (set seen p true) j false) q ∙ get_or-set_same seen p true false h))),
      )
      | inr q ↦ (
        (λ t.
            let m = (names c l).0 (sym (get_or-set_other seen p c true false q) ∙ t) in
            (m.0, omega (arith, length_push xs v, m.1), get_or_append_left xs (v ∷ []) 0 m.0 m.1 ∙ m.2)),
        (λ t. fresh_push xs v (c + 1) (λ w. q (omega arith)) ((names c l).1 (sym (get_or-set_other seen p c true false q) ∙ t))),
      )
    ]
