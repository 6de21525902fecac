-- A tally of the first blocks of a list, and how it grows by one.
use Rattle.std.proofs.Common.{◌≡◌, ℕ, ◌+◌, ◌<◌, Bool, true, false, cond, List, [], ◌∷◌, ◌++◌, length, get_or, take, bytes_eq, Some, unwrap_or, inl, inr, refl, sym, ap, ◌∙◌, subst, arith}
use Rattle.std.specs.Borrow.{Bor}
use Rattle.std.specs.BTreeMap.{BTreeMap, get_by, UpdatesBy}
use Rattle.std.specs.Ordering.{nat_cmp}
use Rattle.std.specs.Cmp.Lexicographic.{slice_cmp}
use Rattle.std.proofs.lemmas.Bool.{cases_lt}
use Rattle.std.proofs.lemmas.List.{get_or_append_left, get_or_push, length_push}
use Rattle.std.proofs.lemmas.Map.Text.{btree_map_updates_str}
use Rattle.order.specs.Comparison.{copies, block_at}
use Rattle.order.specs.Tally.{met_in, rank_at}
use Rattle.order.proofs.Counting.{one_if, same_or_not, equals_itself, copies_more, one_copy}

abbrev pub Times : Type 0
Times = BTreeMap (Bor (List ℕ)) ℕ

-- the first n blocks are counted, and each has its rank
pub record Tallied (blocks : List (List ℕ)) (n : ℕ) (times : Times) (ranks : List ℕ) : Type 0 where
  pub counted : (b : List ℕ) → met_in times b ≡ copies b (take n blocks)
  pub as_many : length ranks ≡ n
  pub ranked : (k : ℕ) → k < n → get_or ranks k 0 ≡ rank_at blocks k

-- the map has this rank at the block, and at other blocks what it had
abbrev pub Sets : Times → Times → List ℕ → ℕ → Type 0
Sets old new block rank = UpdatesBy (λ x y. slice_cmp nat_cmp x.now y.now) (λ k. slice_cmp nat_cmp block k.now) old new (Some rank)

module _ (old new : Times) (block : List ℕ) (rank : ℕ) (sets : Sets old new block rank) where
  set_at : (b : List ℕ) (t : Bool) → bytes_eq block b ≡ t → met_in new b ≡ cond t rank (met_in old b)
  set_at b t is = ap (λ o. unwrap_or o 0) (btree_map_updates_str block old new (Some rank) sets b) ∙ chosen b t is
    where
      chosen : (b : List ℕ) (t : Bool) → bytes_eq block b ≡ t → unwrap_or (cond (bytes_eq block b) (Some rank) (get_by (λ k. slice_cmp nat_cmp b k.now) old)) 0 ≡ cond t rank (met_in old b)
      chosen b true is = rw (is) refl
      chosen b false is = rw (is) refl

  one_more : rank ≡ met_in old block + 1 → (b : List ℕ) → met_in new b ≡ met_in old b + one_if (bytes_eq b block)
  one_more rank_is b = elim (same_or_not b block) [
    | inl same ↦ subst (λ (c : List ℕ). met_in new c ≡ met_in old c + one_if (bytes_eq c block)) (sym same)
        (set_at block true (equals_itself block) ∙ rank_is ∙ sym (ap (λ (t : Bool). met_in old block + one_if t) (equals_itself block)))
    | inr differ ↦ set_at b false differ.1 ∙ omega (arith, ap one_if differ.0)
  ]

-- one more block is counted
pub tallied_next : (blocks : List (List ℕ)) (n : ℕ) (old new : Times) (ranks more : List ℕ) (block : List ℕ) (rank : ℕ) → n < length blocks → block ≡ block_at blocks n
    → Sets old new block rank → rank ≡ met_in old block + 1 → more ≡ ranks ++ rank ∷ [] → Tallied blocks n old ranks → Tallied blocks (n + 1) new more
tallied_next blocks n old new ranks more block rank low at sets rank_is pushed before = record {
  counted = λ b. omega (arith, one_more old new block rank sets rank_is b, before.counted b, copies_more b blocks n low, ap (λ (c : List ℕ). one_if (bytes_eq b c)) at);
  as_many = omega (arith, ap length pushed, length_push ranks rank, before.as_many);
  ranked = λ k below. ap (λ (rs : List ℕ). get_or rs k 0) pushed ∙ (elim (cases_lt k n) [
    | inl less ↦ get_or_append_left ranks (rank ∷ []) 0 k (omega (arith, before.as_many)) ∙ before.ranked k less
    | inr last ↦ let is : k ≡ n = omega arith in
        get_or_push ranks rank 0 k (omega (arith, before.as_many)) ∙ last_rank ∙ ap (rank_at blocks) (sym is)
  ]);
}
  where
    last_rank : rank ≡ rank_at blocks n
    last_rank = rank_is ∙ ap (λ (c : List ℕ). met_in old c + 1) at ∙ omega (arith, before.counted (block_at blocks n), one_copy blocks n low)
