-- The law in the words of its reader, from the law.
use Rattle.std.proofs.Common.{◌≡◌, ℕ, zero, suc, ◌+◌, ◌<◌, ◌≤◌, ◌⊎◌, inl, inr, List, [], ◌∷◌, ◌++◌, map, length, get_or, drop, sym, refl, ap, ap₂, ◌∙◌, subst, ⊎_elim, append-nil, arith, length-append, length-drop, drop-cons}
use Rattle.std.specs.Prelude.{Contains, slice_index, slice_index_or}
use Rattle.std.specs.List.Sorted.{IsStrictlyIncreasing}
use native.Mathlib.Decide.{ℕ_discrete}
use Rattle.std.proofs.Math.Seq.{get_or-append_seam}
use Rattle.std.proofs.lemmas.List.{map_push, get_or_append_left}
use Rattle.std.proofs.lemmas.Bool.{cases_lt}
use Rattle.std.proofs.lemmas.List.Elements.{Contains-append_left, Contains-append_right, Contains-append_cases}
use Rattle.store.specs.Meaning.{Block, Meaning, plain}
use Rattle.law.specs.Runs.{Named, confirmed, doubtful, Way}
use Rattle.law.specs.Law.{Settled, unnamed, came, kept, lost, AtMostFirst, none_of, the_first, delivered, Delivers}
use Rattle.law.specs.Plain.{block_at, OneOf, InWords, LawInWords}
use Rattle.law.proofs.Law.{delivery_law}

-- LISTS

one_in : {A : Type 0} (x y : A) → Contains (x ∷ []) y → x ≡ y
one_in x y w = go w.0 w.1 w.2
  where
    go : (k : ℕ) → k < 1 → slice_index_or (x ∷ []) k y ≡ y → x ≡ y
    go zero low is = is
    go (suc k) low is = absurd (omega (arith, low))

last_in : {A : Type 0} (xs : List A) (x : A) → Contains (xs ++ x ∷ []) x
last_in xs x = Contains-append_right xs (x ∷ []) x (0, omega arith, refl)

rises : (ks : List ℕ) (n : ℕ) → IsStrictlyIncreasing ks → ((k : ℕ) → k < length ks → slice_index ks k < n) → IsStrictlyIncreasing (ks ++ n ∷ [])
rises ks n inc below k low =
    elim (ℕ_discrete (k + 1) (length ks)) [
      | yes e ↦ subst (λ b. slice_index (ks ++ n ∷ []) k < b) (sym (ap (λ j. slice_index (ks ++ n ∷ []) j) e ∙ get_or-append_seam ks n [] 0))
          (subst (λ a. a < n) (sym (get_or_append_left ks (n ∷ []) 0 k (omega (arith, e)))) (below k (omega (arith, e))))
      | no h ↦
          let in_ks : k + 1 < length ks = omega (arith, h, low, length-append ks (n ∷ [])) in
          subst (λ a. a < slice_index (ks ++ n ∷ []) (k + 1)) (sym (get_or_append_left ks (n ∷ []) 0 k (omega (arith, in_ks))))
          (subst (λ b. slice_index ks k < b) (sym (get_or_append_left ks (n ∷ []) 0 (k + 1) in_ks)) (inc k in_ks))
    ]

low_push : (ks : List ℕ) (n b : ℕ) → ((k : ℕ) → k < length ks → slice_index ks k < b) → n < b → (k : ℕ) → k < length (ks ++ n ∷ []) → slice_index (ks ++ n ∷ []) k < b
low_push ks n b below at k low =
    elim (ℕ_discrete k (length ks)) [
      | yes e ↦ subst (λ a. a < b) (sym (ap (λ j. slice_index (ks ++ n ∷ []) j) e ∙ get_or-append_seam ks n [] 0)) at
      | no h ↦
          let in_ks : k < length ks = omega (arith, h, low, length-append ks (n ∷ [])) in
          subst (λ a. a < b) (sym (get_or_append_left ks (n ∷ []) 0 k in_ks)) (below k in_ks)
    ]

-- WHAT IS SETTLED

pub record Told (submitted : List Block) (x : List Named) (d : List Block) : Type 0 where
  pub come : List ℕ
  pub ascending : IsStrictlyIncreasing come
  pub low : (k : ℕ) → k < length come → slice_index come k < suc (length x)
  pub blocks : d ≡ map (block_at submitted) come
  pub has : (k : ℕ) → Contains x (confirmed k) → Contains come k
  pub only : (k : ℕ) → Contains come k → Contains x (confirmed k) ⊎ Contains x (doubtful k)
  pub named_low : (k : ℕ) → Contains x (confirmed k) ⊎ Contains x (doubtful k) → k ≤ length x
  pub each : (k : ℕ) → 1 ≤ k → k ≤ length x → (Contains x (confirmed k) × (Contains x (doubtful k) → ⊥)) ⊎ (Contains x (doubtful k) × (Contains x (confirmed k) → ⊥))

in_push : {A : Type 0} (xs : List A) (x y : A) → Contains (xs ++ x ∷ []) y → Contains xs y ⊎ (x ≡ y)
in_push xs x y w = ⊎_elim (λ v. inl v) (λ v. inr (one_in x y v)) (Contains-append_cases xs (x ∷ []) y w)

before : {A : Type 0} (xs : List A) (x y : A) → Contains xs y → Contains (xs ++ x ∷ []) y
before xs x y w = Contains-append_left xs (x ∷ []) y w

abbrev Either : List Named → ℕ → Type 0
Either x k = (Contains x (confirmed k) × (Contains x (doubtful k) → ⊥)) ⊎ (Contains x (doubtful k) × (Contains x (confirmed k) → ⊥))

module _ (submitted : List Block) (x : List Named) (d : List Block) (t : Told submitted x d) where
  abbrev n : ℕ
  n = suc (length x)

  long : (a : Named) → length (x ++ a ∷ []) ≡ n
  long a = omega (arith, length-append x (a ∷ []))

  below : (k : ℕ) → Contains x (confirmed k) ⊎ Contains x (doubtful k) → k ≡ n → ⊥
  below k w e = let l = t.named_low k w in omega (arith, l, e)

  pub each_confirmed : (k : ℕ) → 1 ≤ k → k ≤ length (x ++ confirmed n ∷ []) → Either (x ++ confirmed n ∷ []) k
  each_confirmed k one low =
      elim (ℕ_discrete k n) [
        | yes e ↦ inl (
          subst (λ j. Contains (x ++ confirmed n ∷ []) (confirmed j)) (sym e) (last_in x (confirmed n)),
          λ w. ⊎_elim (λ v. below k (inr v) e) (λ (is : confirmed n ≡ doubtful k). absurd (cc)) (in_push x (confirmed n) (doubtful k) w),
        )
        | no h ↦
            ⊎_elim
            (λ p. inl (before x (confirmed n) (confirmed k) p.0, λ w. ⊎_elim p.1 (λ (is : confirmed n ≡ doubtful k). absurd (cc)) (in_push x (confirmed n) (doubtful k) w)))
            (λ p. inr (before x (confirmed n) (doubtful k) p.0, λ w. ⊎_elim p.1 (λ (is : confirmed n ≡ confirmed k). let same : n ≡ k = cc in h (sym same)) (in_push x (confirmed n) (confirmed k) w)))
            (t.each k one (omega (arith, h, low, long (confirmed n))))
      ]

  pub each_doubtful : (k : ℕ) → 1 ≤ k → k ≤ length (x ++ doubtful n ∷ []) → Either (x ++ doubtful n ∷ []) k
  each_doubtful k one low =
      elim (ℕ_discrete k n) [
        | yes e ↦ inr (
          subst (λ j. Contains (x ++ doubtful n ∷ []) (doubtful j)) (sym e) (last_in x (doubtful n)),
          λ w. ⊎_elim (λ v. below k (inl v) e) (λ (is : doubtful n ≡ confirmed k). absurd (cc)) (in_push x (doubtful n) (confirmed k) w),
        )
        | no h ↦
            ⊎_elim
            (λ p. inl (before x (doubtful n) (confirmed k) p.0, λ w. ⊎_elim p.1 (λ (is : doubtful n ≡ doubtful k). let same : n ≡ k = cc in h (sym same)) (in_push x (doubtful n) (doubtful k) w)))
            (λ p. inr (before x (doubtful n) (doubtful k) p.0, λ w. ⊎_elim p.1 (λ (is : doubtful n ≡ confirmed k). absurd (cc)) (in_push x (doubtful n) (confirmed k) w)))
            (t.each k one (omega (arith, h, low, long (doubtful n))))
      ]

  -- what is named is no number behind the new one
  pub low_more : (a : Named) → (k : ℕ) → (Contains x (confirmed k) ⊎ Contains x (doubtful k)) ⊎ (k ≡ n) → k ≤ length (x ++ a ∷ [])
  low_more a k w = ⊎_elim (λ v. let l = t.named_low k v in omega (arith, l, long a)) (λ e. omega (arith, e, long a)) w

  confirmed_low : (k : ℕ) → Contains (x ++ confirmed n ∷ []) (confirmed k) ⊎ Contains (x ++ confirmed n ∷ []) (doubtful k) → k ≤ length (x ++ confirmed n ∷ [])
  confirmed_low k w = low_more (confirmed n) k (⊎_elim
      (λ v. ⊎_elim (λ u. inl (inl u)) (λ (is : confirmed n ≡ confirmed k). let same : k ≡ n = cc in inr same) (in_push x (confirmed n) (confirmed k) v))
      (λ v. ⊎_elim (λ u. inl (inr u)) (λ (is : confirmed n ≡ doubtful k). absurd (cc)) (in_push x (confirmed n) (doubtful k) v)) w)

  doubtful_low : (k : ℕ) → Contains (x ++ doubtful n ∷ []) (confirmed k) ⊎ Contains (x ++ doubtful n ∷ []) (doubtful k) → k ≤ length (x ++ doubtful n ∷ [])
  doubtful_low k w = low_more (doubtful n) k (⊎_elim
      (λ v. ⊎_elim (λ u. inl (inl u)) (λ (is : doubtful n ≡ confirmed k). absurd (cc)) (in_push x (doubtful n) (confirmed k) v))
      (λ v. ⊎_elim (λ u. inl (inr u)) (λ (is : doubtful n ≡ doubtful k). let same : k ≡ n = cc in inr same) (in_push x (doubtful n) (doubtful k) v)) w)

  blocks_more : d ++ block_at submitted n ∷ [] ≡ map (block_at submitted) (t.come ++ n ∷ [])
  blocks_more = ap (λ e. e ++ block_at submitted n ∷ []) t.blocks ∙ sym (map_push (block_at submitted) t.come n)

  rising : (a : Named) (k : ℕ) → k < length (t.come ++ n ∷ []) → slice_index (t.come ++ n ∷ []) k < suc (length (x ++ a ∷ []))
  rising a k low = subst (λ b. slice_index (t.come ++ n ∷ []) k < suc b) (sym (long a)) (low_push t.come n (suc n) (λ j is. let l = t.low j is in omega (arith, l)) (omega arith) k low)

  pub told_came : Told submitted (x ++ confirmed n ∷ []) (d ++ block_at submitted n ∷ [])
  told_came = record {
    come = t.come ++ n ∷ [];
    ascending = rises t.come n t.ascending t.low;
    low = rising (confirmed n);
    blocks = blocks_more;
    has = λ k w. ⊎_elim (λ v. before t.come n k (t.has k v)) (λ (is : confirmed n ≡ confirmed k). let same : n ≡ k = cc in subst (Contains (t.come ++ n ∷ [])) same (last_in t.come n)) (in_push x (confirmed n) (confirmed k) w);
    only = λ k w. ⊎_elim
        (λ v. ⊎_elim (λ u. inl (before x (confirmed n) (confirmed k) u)) (λ u. inr (before x (confirmed n) (doubtful k) u)) (t.only k v))
        (λ e. inl (subst (λ j. Contains (x ++ confirmed n ∷ []) (confirmed j)) e (last_in x (confirmed n)))) (in_push t.come n k w);
    named_low = confirmed_low;
    each = each_confirmed;
  }

  pub told_kept : Told submitted (x ++ doubtful n ∷ []) (d ++ block_at submitted n ∷ [])
  told_kept = record {
    come = t.come ++ n ∷ [];
    ascending = rises t.come n t.ascending t.low;
    low = rising (doubtful n);
    blocks = blocks_more;
    has = λ k w. ⊎_elim (λ v. before t.come n k (t.has k v)) (λ (is : doubtful n ≡ confirmed k). absurd (cc)) (in_push x (doubtful n) (confirmed k) w);
    only = λ k w. ⊎_elim
        (λ v. ⊎_elim (λ u. inl (before x (doubtful n) (confirmed k) u)) (λ u. inr (before x (doubtful n) (doubtful k) u)) (t.only k v))
        (λ e. inr (subst (λ j. Contains (x ++ doubtful n ∷ []) (doubtful j)) e (last_in x (doubtful n)))) (in_push t.come n k w);
    named_low = doubtful_low;
    each = each_doubtful;
  }

  pub told_lost : Told submitted (x ++ doubtful n ∷ []) d
  told_lost = record {
    come = t.come;
    ascending = t.ascending;
    low = λ k is. let l = t.low k is in omega (arith, l, long (doubtful n));
    blocks = t.blocks;
    has = λ k w. ⊎_elim (λ v. t.has k v) (λ (is : doubtful n ≡ confirmed k). absurd (cc)) (in_push x (doubtful n) (confirmed k) w);
    only = λ k w. ⊎_elim (λ u. inl (before x (doubtful n) (confirmed k) u)) (λ u. inr (before x (doubtful n) (doubtful k) u)) (t.only k w);
    named_low = doubtful_low;
    each = each_doubtful;
  }

none_in : {A : Type 0} (x : A) → Contains [] x → ⊥
none_in x w = let l = w.1 in omega (arith, l)

told : (submitted : List Block) (x : List Named) (d : List Block) → Settled submitted x d → Told submitted x d
told submitted _ _ unnamed = record {
  come = [];
  ascending = λ k low. absurd (omega (arith, low));
  low = λ k low. absurd (omega (arith, low));
  blocks = refl;
  has = λ k w. absurd (none_in (confirmed k) w);
  only = λ k w. absurd (none_in k w);
  named_low = λ k w. ⊎_elim (λ v. absurd (none_in (confirmed k) v)) (λ v. absurd (none_in (doubtful k) v)) w;
  each = λ k one low. absurd (omega (arith, one, low));
}
told submitted _ _ (came x d low s) = told_came submitted x d (told submitted x d s)
told submitted _ _ (kept x d low s) = told_kept submitted x d (told submitted x d s)
told submitted _ _ (lost x d low s) = told_lost submitted x d (told submitted x d s)

-- DELIVERED

module _ (y : Way) (out inn : Meaning) (c : ℕ) (h : Delivers y out inn c) where
  abbrev names : ℕ
  names = length (y.named c)

  t : Told (y.submitted c) (y.named c) h.sure
  t = told (y.submitted c) (y.named c) h.sure h.settled

  three : (k : ℕ) → 1 ≤ k → k ≤ length (y.submitted c) → OneOf (Contains (y.named c) (confirmed k)) (Contains (y.named c) (doubtful k)) (names < k)
  three k one low =
      ⊎_elim
      (λ (below : k < suc names). let is : k ≤ names = omega (arith, below) in ⊎_elim (λ p. inl (p.0, p.1, λ v. omega (arith, is, v))) (λ p. inr (inl (p.0, p.1, λ v. omega (arith, is, v)))) (t.each k one is))
      (λ (up : suc names ≤ k). let is : names < k = omega (arith, up) in inr (inr (is, (λ v. let l = t.named_low k (inl v) in omega (arith, l, is)), (λ v. let l = t.named_low k (inr v) in omega (arith, l, is)))))
      (cases_lt k (suc names))

  words : (ws extra : List Block) → AtMostFirst ws extra → ws ≡ drop names (y.submitted c) → delivered y inn c ≡ h.sure ++ extra → InWords y out inn c
  words ws _ none_of is exact = record {
    come = t.come;
    ascending = t.ascending;
    delivered_are = exact ∙ append-nil h.sure ∙ t.blocks;
    confirmed_came = t.has;
    only = λ k w. ⊎_elim (λ v. inl v) (λ v. inr (inl v)) (t.only k w);
    in_order = h.named_in_order;
    within = h.within;
    one_of_three = three;
    waiting = h.waiting;
  }
  words _ _ (the_first {b} {blocks}) is exact =
      let more : names < length (y.submitted c) = omega (arith, ap length is, length-drop names (y.submitted c)) in
      let block_is : b ≡ block_at (y.submitted c) (suc names) =
      (let e : b ∷ blocks ≡ get_or (y.submitted c) names (plain []) ∷ drop (suc names) (y.submitted c) = is ∙ drop-cons (y.submitted c) names (plain []) more in cc) in
      record {
        come = t.come ++ suc names ∷ [];
        ascending = rises t.come (suc names) t.ascending t.low;
        delivered_are = exact ∙ ap₂ (λ d e. d ++ e ∷ []) t.blocks block_is ∙ sym (map_push (block_at (y.submitted c)) t.come (suc names));
        confirmed_came = λ k w. before t.come (suc names) k (t.has k w);
        only = λ k w. ⊎_elim (λ v. ⊎_elim (λ u. inl u) (λ u. inr (inl u)) (t.only k v)) (λ e. inr (inr (sym e, omega (arith, e, more)))) (in_push t.come (suc names) k w);
        in_order = h.named_in_order;
        within = h.within;
        one_of_three = three;
        waiting = h.waiting;
      }

  pub in_words : InWords y out inn c
  in_words = words (out.waiting c) h.extra h.first h.waiting h.exact

pub law_in_words : LawInWords
law_in_words = record {
  to_tnc = λ setting l w r c low. in_words w.to_tnc w.host_out w.tnc_in c (delivery_law.delivers setting l w r c low).to_tnc;
  to_host = λ setting l w r c low. in_words w.to_host w.tnc_out w.host_in c (delivery_law.delivers setting l w r c low).to_host;
}
