-- What is left of a poll list: its first channel, the list without it, and the list with one more.
use Rattle.std.proofs.Common.{◌≡◌, ℕ, ◌+◌, ◌<◌, ◌≤◌, List, [], ◌∷◌, ◌++◌, map, length, get_or, take, drop, set, sym, ap, ◌∙◌, arith}
use Rattle.std.proofs.lemmas.List.{drop_more, drop_all, drop-drop, drop-map, map_push, take_more_set, get_or-take, length-take, length-take-le}

-- one at least is left: it stands first, and the others come after it
pub left_some : {X : Type 0} (f : X → ℕ) (xs : List X) (n l : ℕ) (d : X) → n < l → l ≤ length xs →
    map f (drop n (take l xs)) ≡ f (get_or xs n d) ∷ map f (drop (n + 1) (take l xs))
left_some {X} f xs n l d h g =
    let k : n < length (take l xs) = omega (arith, length-take-le l xs g) in
    ap (map f) (drop_more (take l xs) n d k)
    ∙ ap (λ (x : X). f x ∷ map f (drop (n + 1) (take l xs))) (get_or-take l xs n d h)

-- the first, before the list without it
pub left_first : {X : Type 0} (f : X → ℕ) (xs : List X) (n l : ℕ) (d : X) → n < l → l ≤ length xs →
    map f (drop n (take l xs)) ≡ f (get_or xs n d) ∷ drop 1 (map f (drop n (take l xs)))
left_first f xs n l d h g =
    let e = left_some f xs n l d h g in
    e ∙ ap (λ (ys : List ℕ). f (get_or xs n d) ∷ drop 1 ys) (sym e)

-- the list without its first
pub left_rest : {X : Type 0} (f : X → ℕ) (xs : List X) (n l : ℕ) →
    map f (drop (n + 1) (take l xs)) ≡ drop 1 (map f (drop n (take l xs)))
left_rest f xs n l = sym (drop-map f 1 (drop n (take l xs)) ∙ ap (map f) (drop-drop 1 n (take l xs)))

-- none is left
pub left_none : {X : Type 0} (f : X → ℕ) (xs : List X) (n l : ℕ) → l ≤ n → map f (drop n (take l xs)) ≡ []
left_none f xs n l h =
    let k : length (take l xs) ≤ n = omega (arith, length-take l xs) in
    ap (map f) (drop_all n (take l xs) k)

-- one channel more at the end of the list, and its listed value
pub left_more : {X : Type 0} (f : X → ℕ) (xs : List X) (n : ℕ) (x : X) (ys : List ℕ) (v : ℕ) → n < length xs → f x + 1 ≡ v →
    map (λ (c : ℕ). c + 1) (map f (take n xs)) ≡ ys →
    map (λ (c : ℕ). c + 1) (map f (take (n + 1) (set xs n x))) ≡ ys ++ v ∷ []
left_more {X} f xs n x ys v h e q =
    let up : ℕ → ℕ = λ c. c + 1 in
    ap (λ (l : List X). map up (map f l)) (take_more_set xs n x h)
    ∙ ap (map up) (map_push f (take n xs) x)
    ∙ map_push up (map f (take n xs)) (f x)
    ∙ ap (λ (l : List ℕ). l ++ (f x + 1) ∷ []) q
    ∙ ap (λ (w : ℕ). ys ++ w ∷ []) e
