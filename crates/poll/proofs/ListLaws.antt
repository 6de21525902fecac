-- The list of the waiting channels is good, ascends, and names exactly them; and how it is written, channel by channel.
use Rattle.std.proofs.Common.{◌≡◌, ℕ, zero, suc, ◌+◌, ◌<◌, ◌≤◌, Bool, true, false, cond, List, [], ◌∷◌, ◌++◌, length, get_or, take, drop, set, sym, ap, ◌∙◌, arith}
use Rattle.std.proofs.lemmas.List.{append-nil, append_assoc, at_drop_more, at_drop_all, get_or-take, length-take, take_more_set}
use Rattle.std.proofs.lemmas.Bool.{true≢false, false≢true}
use Rattle.poll.specs.List.{Fresh, GoodList, listed_from, list_of, Names, Ascends}

-- from channel c on, each value is above c, and at most the last channel's
pub within : (ws : List Bool) (c k : ℕ) → k < length (listed_from c ws) →
    (c + 1 ≤ get_or (listed_from c ws) k 0) × (get_or (listed_from c ws) k 0 ≤ c + length ws)
within [] c k h = omega arith
within (true ∷ ws) c zero h = (omega arith, omega arith)
within (true ∷ ws) c (suc k) h = let t = within ws (c + 1) k (omega arith) in (omega arith, omega arith)
within (false ∷ ws) c k h = let t = within ws (c + 1) k h in (omega arith, omega arith)

pub ascends : (ws : List Bool) (c : ℕ) → Ascends (listed_from c ws)
ascends [] c j k h l = omega arith
ascends (true ∷ ws) c j zero h l = omega arith
ascends (true ∷ ws) c zero (suc k) h l = omega (arith, within ws (c + 1) k (omega arith))
ascends (true ∷ ws) c (suc j) (suc k) h l = ascends ws (c + 1) j k (omega arith) (omega arith)
ascends (false ∷ ws) c j k h l = ascends ws (c + 1) j k h l

-- a waiting channel is named
pub named : (ws : List Bool) (c j v : ℕ) → c + j + 1 ≡ v → get_or ws j false ≡ true →
    (k : ℕ) × (k < length (listed_from c ws)) × (get_or (listed_from c ws) k 0 ≡ v)
named [] c j v e t = absurd (false≢true t)
named (true ∷ ws) c zero v e t = (0, omega arith, omega arith)
named (false ∷ ws) c zero v e t = absurd (false≢true t)
named (true ∷ ws) c (suc j) v e t =
    let m = named ws (c + 1) j v (omega arith) t in
    (suc m.0, omega (arith, m.1), m.2)
named (false ∷ ws) c (suc j) v e t = named ws (c + 1) j v (omega arith) t

-- a channel that does not wait is not named
pub unnamed : (ws : List Bool) (c j v : ℕ) → j < length ws → c + j + 1 ≡ v → get_or ws j false ≡ false → Fresh (listed_from c ws) v
unnamed [] c j v l e t k h q = omega arith
unnamed (true ∷ ws) c zero v l e t k h q = true≢false t
unnamed (false ∷ ws) c zero v l e t k h q = omega (arith, within ws (c + 1) k h)
unnamed (true ∷ ws) c (suc j) v l e t zero h q = omega arith
unnamed (true ∷ ws) c (suc j) v l e t (suc k) h q = unnamed ws (c + 1) j v (omega arith) (omega arith) t k (omega arith) q
unnamed (false ∷ ws) c (suc j) v l e t k h q = unnamed ws (c + 1) j v (omega arith) (omega arith) t k h q

pub names : (ws : List Bool) → length ws ≡ 64 → Names ws (list_of ws)
names ws n c l = (named ws 0 c (c + 1) (omega arith), unnamed ws 0 c (c + 1) (omega arith) (omega arith))

-- an ascending list has no value twice
pub good : (ws : List Bool) → length ws ≡ 64 → GoodList (list_of ws)
good ws n k h =
    let t = within ws 0 k h in (
      omega arith,
      omega arith,
      (λ j l e.
          let xs = list_of ws in
          let lt : j < k = omega (arith, length-take k xs) in
          omega (arith, ascends ws 0 j k lt h, get_or-take k xs j 0 lt)),
    )

-- a channel that waits is written next
pub list_more : (vs : List ℕ) (n v : ℕ) (ws : List Bool) (i : ℕ) (all : List ℕ) → n < length vs → i < length ws →
    get_or ws i false ≡ true → v ≡ i + 1 → take n vs ++ listed_from i (drop i ws) ≡ all →
    take (n + 1) (set vs n v) ++ listed_from (i + 1) (drop (i + 1) ws) ≡ all
list_more vs n v ws i all h l t e q =
    let rest = listed_from (i + 1) (drop (i + 1) ws) in
    ap (λ (xs : List ℕ). xs ++ rest) (take_more_set vs n v h)
    ∙ append_assoc (take n vs) (v ∷ []) rest
    ∙ ap (λ (w : ℕ). take n vs ++ w ∷ rest) e
    ∙ ap (λ (b : Bool). take n vs ++ cond b ((i + 1) ∷ rest) rest) (sym t)
    ∙ ap (λ (xs : List ℕ). take n vs ++ xs) (sym (at_drop_more (listed_from i) ws i false l))
    ∙ q

-- a channel that does not wait is passed over
pub list_same : (xs : List ℕ) (ws : List Bool) (i : ℕ) (all : List ℕ) → i < length ws →
    get_or ws i false ≡ false → xs ++ listed_from i (drop i ws) ≡ all → xs ++ listed_from (i + 1) (drop (i + 1) ws) ≡ all
list_same xs ws i all l t q =
    let rest = listed_from (i + 1) (drop (i + 1) ws) in
    ap (λ (b : Bool). xs ++ cond b ((i + 1) ∷ rest) rest) (sym t)
    ∙ ap (λ (ys : List ℕ). xs ++ ys) (sym (at_drop_more (listed_from i) ws i false l))
    ∙ q

-- past the last channel the list is whole
pub list_all : (xs : List ℕ) (ws : List Bool) (i : ℕ) (all : List ℕ) → length ws ≤ i → xs ++ listed_from i (drop i ws) ≡ all → xs ≡ all
list_all xs ws i all l q =
    sym (append-nil xs) ∙ ap (λ (ys : List ℕ). xs ++ ys) (sym (at_drop_all (listed_from i) ws i l)) ∙ q
