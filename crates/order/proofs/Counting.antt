-- Counts of blocks: how a count grows by one place, how copies that are wanting and copies that are over balance, and when there are none.
use Rattle.std.proofs.Common.{◌≡◌, ℕ, zero, suc, ◌+◌, ◌<◌, ◌≤◌, Bool, true, false, cond, not, ◌&&◌, ◌==◌, nat_lt, nat_le, List, [], ◌∷◌, ◌++◌, map, length, get_or, take, take_all, count_by, bytes_eq, Vec, vec_items, ◌⊎◌, inl, inr, sym, refl, ap, ap₂, ◌∙◌, subst, arith}
use Rattle.std.proofs.lemmas.Bool.{cases_lt, lt-ltb, le-ltb, le-leb, eqb-true, ne_eqb, cases_Bool}
use Rattle.std.proofs.lemmas.List.{get_or-map, take-map}
use Rattle.std.proofs.lemmas.List.Sums.{sum_by-cons, sum_by_push, sum_by_more, sum_by-take-le, count_by-le-length}
use Rattle.std.proofs.lemmas.Slice.Eq.{bytes_eq-Decides}
use Rattle.std.proofs.lemmas.List.FromFn.{length-range_with_len}
use Rattle.std.specs.List.{range_with_len}
use Rattle.order.specs.Blocks.{bytes_of}
use Rattle.order.specs.Comparison.{copies, block_at, is_surplus, is_lost, is_once, is_strange, is_doubled, number_of}

-- 1 where a test passes
abbrev pub one_if : Bool → ℕ
one_if b = cond b 1 0

one_if_lt : (a b : ℕ) → ((a < b) × (one_if (nat_lt a b) ≡ 1)) ⊎ ((b ≤ a) × (one_if (nat_lt a b) ≡ 0))
one_if_lt a b = elim (cases_lt a b) [
  | inl less ↦ inl (less, ap one_if (lt-ltb a b less))
  | inr more ↦ inr (more, ap one_if (le-ltb a b more))
]

pub same_or_not : (a b : List ℕ) → (a ≡ b) ⊎ ((bytes_eq a b ≡ false) × (bytes_eq b a ≡ false))
same_or_not a b = elim (cases_Bool (bytes_eq a b)) [
  | inl are ↦ inl ((bytes_eq-Decides a b).0 are)
  | inr differ ↦ elim (cases_Bool (bytes_eq b a)) [
    | inl are ↦ inl (sym ((bytes_eq-Decides b a).0 are))
    | inr turned ↦ inr (differ, turned)
  ]
]

pub equals_itself : (b : List ℕ) → bytes_eq b b ≡ true
equals_itself b = (bytes_eq-Decides b b).1 refl

pub count_by-map : {A B : Type 0} (f : A → B) (p : B → Bool) (xs : List A) → count_by p (map f xs) ≡ count_by (λ x. p (f x)) xs
count_by-map f p [] = refl
count_by-map f p (x ∷ xs) =
    let rest = count_by-map f p xs in
    omega (arith, sum_by-cons (λ y. one_if (p y)) (f x) (map f xs), sum_by-cons (λ y. one_if (p (f y))) x xs, rest)

-- how many of the numbers below n pass
abbrev below : (ℕ → Bool) → ℕ → ℕ
below p n = count_by p (range_with_len 0 n)

range_more : (a n j : ℕ) → a + n ≡ j → range_with_len a (suc n) ≡ range_with_len a n ++ j ∷ []
range_more a zero j e = let f : a ≡ j = omega arith in ap (λ (m : ℕ). m ∷ []) f
range_more a (suc n) j e = ap (λ (xs : List ℕ). a ∷ xs) (range_more (a + 1) n j (omega arith))

below_more : (p : ℕ → Bool) (n : ℕ) → below p (suc n) ≡ below p n + one_if (p n)
below_more p n = ap (count_by p) (range_more 0 n n (omega arith)) ∙ sum_by_push (λ (k : ℕ). one_if (p k)) (range_with_len 0 n) n

-- a loop's step, by what the test answered
pub below_step : (p : ℕ → Bool) (k n : ℕ) (t : Bool) → n ≡ below p k → t ≡ p k → below p (k + 1) ≡ n + one_if t
below_step p k n t so_far is =
    let e : k + 1 ≡ suc k = omega arith in
    ap (below p) e ∙ omega (arith, below_more p k, so_far, ap one_if is)

pub few : (p : ℕ → Bool) (n : ℕ) → below p n ≤ n
few p n = omega (arith, count_by-le-length p (range_with_len 0 n), length-range_with_len 0 n)

below_same : (p q : ℕ → Bool) (n : ℕ) → ((k : ℕ) → k < n → p k ≡ q k) → below p n ≡ below q n
below_same p q zero same = refl
below_same p q (suc n) same =
    let rest = below_same p q n (λ k low. same k (omega arith)) in
    let last = ap one_if (same n (omega arith)) in
    omega (arith, below_more p n, below_more q n, rest, last)

pub copies_more : (b : List ℕ) (xs : List (List ℕ)) (k : ℕ) → k < length xs → copies b (take (k + 1) xs) ≡ copies b (take k xs) + one_if (bytes_eq b (block_at xs k))
copies_more b xs k low = sum_by_more (λ (x : List ℕ). one_if (bytes_eq b x)) xs k [] low

-- the block itself is a copy of it
pub one_copy : (xs : List (List ℕ)) (k : ℕ) → k < length xs → copies (block_at xs k) (take (k + 1) xs) ≡ copies (block_at xs k) (take k xs) + 1
one_copy xs k low = copies_more (block_at xs k) xs k low ∙ ap (λ (t : Bool). copies (block_at xs k) (take k xs) + one_if t) (equals_itself (block_at xs k))

-- WHERE ONE COPY MORE IS ALLOWED

-- block number k is one copy more than f allows
abbrev exceeds : (List ℕ → ℕ) → List (List ℕ) → ℕ → Bool
exceeds f xs k = nat_lt (f (block_at xs k)) (copies (block_at xs k) (take (k + 1) xs))

abbrev one_more : (List ℕ → ℕ) → List ℕ → List ℕ → ℕ
one_more f x b = f b + one_if (bytes_eq b x)

one_if_lt-suc : (m c m' c' : ℕ) → m' ≡ m + 1 → c' ≡ c + 1 → one_if (nat_lt m' c') ≡ one_if (nat_lt m c)
one_if_lt-suc m c m' c' em ec = grind (arith, one_if_lt m c, one_if_lt m' c')

-- at a block that has one more allowed, and at another
at_same : (f : List ℕ → ℕ) (xs : List (List ℕ)) (k : ℕ) → k < length xs
    → one_if (nat_lt (f (block_at xs k)) (copies (block_at xs k) (take k xs))) ≡ one_if (exceeds (one_more f (block_at xs k)) xs k)
at_same f xs k low =
    let b = block_at xs k in
    sym (one_if_lt-suc (f b) (copies b (take k xs)) (one_more f b b) (copies b (take (k + 1) xs)) (ap (λ (t : Bool). f b + one_if t) (equals_itself b)) (one_copy xs k low))

at_other : (f : List ℕ → ℕ) (x : List ℕ) (xs : List (List ℕ)) (k : ℕ) → bytes_eq (block_at xs k) x ≡ false → exceeds f xs k ≡ exceeds (one_more f x) xs k
at_other f x xs k differ =
    let b = block_at xs k in
    let e : one_more f x b ≡ f b = ap (λ (t : Bool). f b + one_if t) differ ∙ omega arith in
    ap (λ (m : ℕ). nat_lt m (copies b (take (k + 1) xs))) (sym e)

exceeds_at : (f : List ℕ → ℕ) (x : List ℕ) (xs : List (List ℕ)) (k : ℕ) → k < length xs
    → one_if (exceeds f xs k) + one_if (nat_lt (f x) (copies x (take k xs))) ≡ one_if (exceeds (one_more f x) xs k) + one_if (nat_lt (f x) (copies x (take (k + 1) xs)))
exceeds_at f x xs k low = elim (same_or_not (block_at xs k) x) [
  | inl same ↦ subst (λ (y : List ℕ). one_if (exceeds f xs k) + one_if (nat_lt (f y) (copies y (take k xs))) ≡ one_if (exceeds (one_more f y) xs k) + one_if (nat_lt (f y) (copies y (take (k + 1) xs)))) same (omega (arith, at_same f xs k low))
  | inr differ ↦
      let e = ap one_if (at_other f x xs k differ.0) in
      let n : copies x (take (k + 1) xs) ≡ copies x (take k xs) = copies_more x xs k low ∙ ap (λ (t : Bool). copies x (take k xs) + one_if t) differ.1 ∙ omega arith in
      let c = ap (λ (m : ℕ). one_if (nat_lt (f x) m)) n in
      omega (arith, e, c)
]

exceeds_below : (f : List ℕ → ℕ) (x : List ℕ) (xs : List (List ℕ)) (n : ℕ) → n ≤ length xs
    → below (exceeds f xs) n ≡ below (exceeds (one_more f x) xs) n + one_if (nat_lt (f x) (copies x (take n xs)))
exceeds_below f x xs zero low = omega (arith, ap one_if (le-ltb (f x) 0 (omega arith)))
exceeds_below f x xs (suc n) low =
    let rest = exceeds_below f x xs n (omega arith) in
    let last = exceeds_at f x xs n (omega arith) in
    let p = below_more (exceeds f xs) n in
    let q = below_more (exceeds (one_more f x) xs) n in
    let e : n + 1 ≡ suc n = omega arith in
    let more = ap (λ (m : ℕ). one_if (nat_lt (f x) (copies x (take m xs)))) e in
    omega (arith, rest, last, p, q, more)

-- THE BALANCE

all_exceed : (ys : List (List ℕ)) (n : ℕ) → n ≤ length ys → below (is_surplus ys []) n ≡ n
all_exceed ys zero low = refl
all_exceed ys (suc n) low =
    let rest = all_exceed ys n (omega arith) in
    let one = one_copy ys n (omega arith) in
    let last = ap one_if (lt-ltb 0 (copies (block_at ys n) (take (n + 1) ys)) (omega (arith, one))) in
    omega (arith, below_more (is_surplus ys []) n, rest, last)

one_if_turned : (c m m' : ℕ) → m' ≡ m + 1 → one_if (nat_lt c m') + one_if (nat_lt m c) ≡ 1
one_if_turned c m m' e = grind (arith, one_if_lt c m', one_if_lt m c)

balanced : (xs ys : List (List ℕ)) (n : ℕ) → n ≤ length xs
    → n + below (is_surplus ys (take n xs)) (length ys) ≡ length ys + below (is_surplus xs ys) n
balanced xs ys zero low = omega (arith, all_exceed ys (length ys) (omega arith))
balanced xs ys (suc n) low =
    let x = block_at xs n in
    let f : List ℕ → ℕ = λ b. copies b (take n xs) in
    let rest = balanced xs ys n (omega arith) in
    let e : n + 1 ≡ suc n = omega arith in
    let grown = below_same (is_surplus ys (take (suc n) xs)) (exceeds (one_more f x) ys) (length ys)
    (λ k below. ap (λ (m : ℕ). nat_lt m (copies (block_at ys k) (take (k + 1) ys))) (ap (λ (m : ℕ). copies (block_at ys k) (take m xs)) (sym e) ∙ copies_more (block_at ys k) xs n (omega arith))) in
    let all : take (length ys) ys ≡ ys = take_all (length ys) ys (omega arith) in
    let split = exceeds_below f x ys (length ys) (omega arith) ∙ ap (λ (zs : List (List ℕ)). below (exceeds (one_more f x) ys) (length ys) + one_if (nat_lt (f x) (copies x zs))) all in
    let last = one_if_turned (copies x ys) (f x) (copies x (take (n + 1) xs)) (one_copy xs n (omega arith)) in
    omega (arith, rest, grown, split, last, below_more (is_surplus xs ys) n)

pub balance : (xs ys : List (List ℕ)) → length xs + number_of (is_surplus ys xs) ys ≡ length ys + number_of (is_surplus xs ys) xs
balance xs ys = subst (λ (zs : List (List ℕ)). length xs + number_of (is_surplus ys zs) ys ≡ length ys + number_of (is_surplus xs ys) xs) (take_all (length xs) xs (omega arith)) (balanced xs ys (length xs) (omega arith))

-- NONE OVER

-- with none over, no block has more copies than the others have
within_below : (xs ys : List (List ℕ)) (b : List ℕ) (n : ℕ) → n ≤ length xs → below (is_surplus xs ys) n ≡ 0 → copies b (take n xs) ≤ copies b ys
within_below xs ys b zero low none = omega arith
within_below xs ys b (suc n) low none =
    let more = below_more (is_surplus xs ys) n in
    let rest = within_below xs ys b n (omega arith) (omega (arith, more, none)) in
    let e : n + 1 ≡ suc n = omega arith in
    let at = ap (λ (m : ℕ). copies b (take m xs)) (sym e) in
    elim (same_or_not (block_at xs n) b) [
      | inl same ↦ subst (λ (c : List ℕ). copies c (take (suc n) xs) ≤ copies c ys) same
          (subst (λ (m : ℕ). copies (block_at xs n) (take m xs) ≤ copies (block_at xs n) ys) e (grind (arith, one_if_lt (copies (block_at xs n) ys) (copies (block_at xs n) (take (n + 1) xs)), more, none)))
      | inr differ ↦
          let step = copies_more b xs n (omega arith) ∙ ap (λ (t : Bool). copies b (take n xs) + one_if t) differ.1 in
          omega (arith, rest, step, at)
    ]

pub within : (xs ys : List (List ℕ)) → number_of (is_surplus xs ys) xs ≡ 0 → (b : List ℕ) → copies b xs ≤ copies b ys
within xs ys none b = subst (λ (zs : List (List ℕ)). copies b zs ≤ copies b ys) (take_all (length xs) xs (omega arith)) (within_below xs ys b (length xs) (omega arith) none)

none_below : (xs ys : List (List ℕ)) → ((b : List ℕ) → copies b xs ≤ copies b ys) → (n : ℕ) → below (is_surplus xs ys) n ≡ 0
none_below xs ys fits zero = refl
none_below xs ys fits (suc n) =
    let rest = none_below xs ys fits n in
    let b = block_at xs n in
    let part = sum_by-take-le (λ (x : List ℕ). one_if (bytes_eq b x)) xs (n + 1) in
    let last = ap one_if (le-ltb (copies b ys) (copies b (take (n + 1) xs)) (omega (arith, part, fits b))) in
    omega (arith, rest, last, below_more (is_surplus xs ys) n)

pub none_over : (xs ys : List (List ℕ)) → ((b : List ℕ) → copies b xs ≤ copies b ys) → number_of (is_surplus xs ys) xs ≡ 0
none_over xs ys fits = none_below xs ys fits (length xs)

-- WHAT IS OVER, EXPECTED OR NOT

over_at : (d s : Bool) → (d ≡ true → s ≡ true) → one_if s ≡ one_if (not d && s) + one_if d
over_at true s h = ap one_if (h refl)
over_at false s h = omega arith

split_below : (expected collected : List (List ℕ)) (n : ℕ) → n ≤ length collected
    → below (is_surplus collected expected) n ≡ below (is_doubled expected collected) n + count_by (is_strange expected) (take n collected)
split_below expected collected zero low = omega arith
split_below expected collected (suc n) low =
    let b = block_at collected n in
    let one = one_copy collected n (omega arith) in
    let rest = split_below expected collected n (omega arith) in
    let last = over_at (is_strange expected b) (is_surplus collected expected n)
    (λ e. lt-ltb (copies b expected) (copies b (take (n + 1) collected)) (omega (arith, one, eqb-true (copies b expected) 0 e))) in
    let strange = sum_by_more (λ (x : List ℕ). one_if (is_strange expected x)) collected n [] (omega arith) in
    let e : n + 1 ≡ suc n = omega arith in
    let at = ap (λ (m : ℕ). count_by (is_strange expected) (take m collected)) e in
    omega (arith, rest, last, strange, at, below_more (is_surplus collected expected) n, below_more (is_doubled expected collected) n)

pub split_over : (expected collected : List (List ℕ)) → number_of (is_surplus collected expected) collected ≡ number_of (is_doubled expected collected) collected + count_by (is_strange expected) collected
split_over expected collected = split_below expected collected (length collected) (omega arith) ∙ ap (λ (xs : List (List ℕ)). number_of (is_doubled expected collected) collected + count_by (is_strange expected) xs) (take_all (length collected) collected (omega arith))

-- WITH NONE DOUBLED

not_over : (x y : ℕ) → 0 < x → one_if (not (x == 0) && nat_lt x y) ≡ 0 → y ≤ x
not_over x y some none =
    let known : (x == 0) ≡ false = ne_eqb x 0 (λ z. omega arith) in
    let h = subst (λ (t : Bool). one_if (not t && nat_lt x y) ≡ 0) known none in
    grind (arith, one_if_lt x y, h)

-- an expected block has no more copies than were expected
doubled_below : (expected collected : List (List ℕ)) (b : List ℕ) (n : ℕ) → n ≤ length collected → 0 < copies b expected → below (is_doubled expected collected) n ≡ 0 → copies b (take n collected) ≤ copies b expected
doubled_below expected collected b zero low some none = omega arith
doubled_below expected collected b (suc n) low some none =
    let more = below_more (is_doubled expected collected) n in
    let rest = doubled_below expected collected b n (omega arith) some (omega (arith, more, none)) in
    let e : n + 1 ≡ suc n = omega arith in
    let at = ap (λ (m : ℕ). copies b (take m collected)) (sym e) in
    elim (same_or_not (block_at collected n) b) [
      | inl same ↦
          let x = block_at collected n in
          let fits = not_over (copies x expected) (copies x (take (n + 1) collected)) (subst (λ (c : List ℕ). 0 < copies c expected) (sym same) some) (omega (arith, more, none)) in
          subst (λ (c : List ℕ). copies c (take (suc n) collected) ≤ copies c expected) same (subst (λ (m : ℕ). copies x (take m collected) ≤ copies x expected) e fits)
      | inr differ ↦
          let step = copies_more b collected n (omega arith) ∙ ap (λ (t : Bool). copies b (take n collected) + one_if t) differ.1 in
          omega (arith, rest, step, at)
    ]

fits_expected : (expected collected : List (List ℕ)) (b : List ℕ) → 0 < copies b expected → number_of (is_doubled expected collected) collected ≡ 0 → copies b collected ≤ copies b expected
fits_expected expected collected b some none = subst (λ (zs : List (List ℕ)). copies b zs ≤ copies b expected) (take_all (length collected) collected (omega arith)) (doubled_below expected collected b (length collected) (omega arith) some none)

once_or_lost : (l m : Bool) → m ≡ true → one_if (not l && m) + one_if l ≡ 1
once_or_lost true m h = refl
once_or_lost false m h = ap (λ (t : Bool). one_if t + 0) h

once_below : (expected collected : List (List ℕ)) → number_of (is_doubled expected collected) collected ≡ 0 → (n : ℕ) → n ≤ length expected → below (is_once expected collected) n + below (is_lost expected collected) n ≡ n
once_below expected collected none zero low = refl
once_below expected collected none (suc n) low =
    let rest = once_below expected collected none n (omega arith) in
    let b = block_at expected n in
    let some : 0 < copies b expected = omega (arith, one_copy expected n (omega arith), sum_by-take-le (λ (x : List ℕ). one_if (bytes_eq b x)) expected (n + 1)) in
    let fits = le-leb (copies b collected) (copies b expected) (fits_expected expected collected b some none) in
    omega (arith, rest, once_or_lost (is_lost expected collected n) (nat_le (copies b collected) (copies b expected)) fits, below_more (is_once expected collected) n, below_more (is_lost expected collected) n)

pub all_once : (expected collected : List (List ℕ)) → number_of (is_doubled expected collected) collected ≡ 0 → number_of (is_once expected collected) expected + number_of (is_lost expected collected) expected ≡ length expected
all_once expected collected none = once_below expected collected none (length expected) (omega arith)

-- AT BLOCKS OF THE PROGRAM

module _ {Z : Type 0} where
  pub block_is : (vs : List (Vec ℕ Z)) (k : ℕ) (v : Vec ℕ Z) → k < length vs → v ≡ get_or vs k v → vec_items v ≡ block_at (bytes_of vs) k
  block_is vs k v low at = ap vec_items at ∙ sym (get_or-map vec_items vs k v [] low)

  -- the tests at a place, from what was counted there
  pub surplus_at : (vs others : List (Vec ℕ Z)) (k : ℕ) (v : Vec ℕ Z) (b : List ℕ) (x y : ℕ) → k < length vs → v ≡ get_or vs k v → b ≡ vec_items v
      → x ≡ copies b (bytes_of others) → y ≡ copies b (bytes_of (take (k + 1) vs)) → nat_lt x y ≡ is_surplus (bytes_of vs) (bytes_of others) k
  surplus_at vs others k v b x y low at bs x_is y_is =
      let is = bs ∙ block_is vs k v low at in
      ap₂ nat_lt (x_is ∙ ap (λ (d : List ℕ). copies d (bytes_of others)) is) (y_is ∙ ap₂ copies is (sym (take-map vec_items (k + 1) vs)))

  pub within_at : (vs others : List (Vec ℕ Z)) (k : ℕ) (v : Vec ℕ Z) (b : List ℕ) (x y : ℕ) → k < length vs → v ≡ get_or vs k v → b ≡ vec_items v
      → x ≡ copies b (bytes_of others) → y ≡ copies b (bytes_of vs) → nat_le x y ≡ nat_le (copies (block_at (bytes_of vs) k) (bytes_of others)) (copies (block_at (bytes_of vs) k) (bytes_of vs))
  within_at vs others k v b x y low at bs x_is y_is =
      let is = bs ∙ block_is vs k v low at in
      ap₂ nat_le (x_is ∙ ap (λ (d : List ℕ). copies d (bytes_of others)) is) (y_is ∙ ap (λ (d : List ℕ). copies d (bytes_of vs)) is)
