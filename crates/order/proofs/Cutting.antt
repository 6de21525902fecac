-- Laws of the blocks of a text: how many they are, which they are, and that they join to the text.
use Rattle.std.proofs.Common.{◌≡◌, ℕ, zero, suc, ◌+◌, ◌-◌, ◌*◌, ◌/◌, ◌<◌, ◌≤◌, min, List, [], ◌∷◌, ◌++◌, length, get_or, take, drop, sym, refl, ap, ap₂, ◌∙◌, inl, inr, arith, length-append, length-drop, length-take, take_all, take_at, drop-drop, take-add}
use Rattle.std.proofs.lemmas.List.{drop_all, drop_at, nil_from_length, take_min}
use Rattle.std.proofs.lemmas.Bool.{cases_lt}
use Rattle.std.specs.List.{flat_map}
use Rattle.order.specs.Blocks.{first_blocks, blocks_of, Whole, BlockAt}

length_first : (n : ℕ) (text : List ℕ) → length (first_blocks n text) ≡ n
unfolding first_blocks
length_first zero text = refl
length_first (suc n) text = ap suc (length_first n (drop 256 text))

get_or_first : (n k : ℕ) (text : List ℕ) → k < n → get_or (first_blocks n text) k [] ≡ take 256 (drop (256 * k) text)
unfolding first_blocks
get_or_first zero k text h = absurd (omega arith)
get_or_first (suc n) zero text h = refl
get_or_first (suc n) (suc k) text h =
    let e : 256 + 256 * k ≡ 256 * suc k = omega arith in
    get_or_first n k (drop 256 text) (omega arith) ∙ ap (take 256) (drop-drop (256 * k) 256 text ∙ ap (λ (m : ℕ). drop m text) e)

joined_first : (n : ℕ) (text : List ℕ) → flat_map (λ (b : List ℕ). b) (first_blocks n text) ≡ take (256 * n) text
unfolding first_blocks
joined_first zero text = refl
joined_first (suc n) text =
    let e : 256 + 256 * n ≡ 256 * suc n = omega arith in
    ap (λ (rest : List ℕ). take 256 text ++ rest) (joined_first n (drop 256 text))
    ∙ sym (take-add 256 (256 * n) text) ∙ ap (λ (m : ℕ). take m text) e

-- how many blocks a text has
pub count_is : (text : List ℕ) → length (blocks_of text) ≡ (length text + 255) / 256
unfolding blocks_of
count_is text = length_first ((length text + 255) / 256) text

pub whole : (text : List ℕ) → Whole text
unfolding blocks_of
whole text =
    let n : ℕ = (length text + 255) / 256 in
    joined_first n text ∙ take_all (256 * n) text (omega arith)

-- what is taken from a block's start on is the block
pub block_at : (text : List ℕ) (k : ℕ) → 256 * k < length text → BlockAt text k (take 256 (drop (256 * k) text))
unfolding blocks_of
block_at text k h =
    let rest : List ℕ = drop (256 * k) text in
    let n : length rest ≡ length text - 256 * k = length-drop (256 * k) text in
    record {
      listed = sym (get_or_first ((length text + 255) / 256) k text (omega arith));
      bytes = refl;
      some = omega (arith, length-take 256 rest);
      few = omega (arith, length-take 256 rest);
    }

-- what is cut off in front of a text is its first block, and the rest has the others
pub front_is : (text b rest : List ℕ) → text ≡ b ++ rest → length b ≡ min 256 (length text) → take 256 text ≡ b
front_is text b rest e n = sym (ap (λ (k : ℕ). take k text) n ∙ take_min 256 text) ∙ ap (take (length b)) e ∙ take_at b rest (length b) refl

pub cut_off : (text b rest : List ℕ) → text ≡ b ++ rest → length b ≡ min 256 (length text) → 0 < length text → blocks_of text ≡ b ∷ blocks_of rest
unfolding blocks_of first_blocks
cut_off text b rest e n some =
    let l = ap length e ∙ length-append b rest in
    let count : (length text + 255) / 256 ≡ suc ((length rest + 255) / 256) = omega arith in
    let back : drop 256 text ≡ rest = elim (cases_lt (length b) 256) [
      | inl less ↦ drop_all 256 text (omega arith) ∙ sym (nil_from_length rest (omega arith))
      | inr full ↦ ap (drop 256) e ∙ drop_at b rest 256 (omega arith)
    ] in
    ap (λ (k : ℕ). first_blocks k text) count ∙ ap₂ (λ (x y : List ℕ). x ∷ first_blocks ((length rest + 255) / 256) y) (front_is text b rest e n) back

pub none_left : (text : List ℕ) → length text ≡ 0 → blocks_of text ≡ []
unfolding blocks_of first_blocks
none_left text h = ap blocks_of (nil_from_length text h)

-- each block has 1 to 256 bytes
pub sizes : (text : List ℕ) (k : ℕ) → k < length (blocks_of text) → (1 ≤ length (get_or (blocks_of text) k [])) × (length (get_or (blocks_of text) k []) ≤ 256)
sizes text k h =
    let n = count_is text in
    let b = block_at text k (omega arith) in
    let same = ap length b.listed in
    (omega (arith, b.some), omega (arith, b.few))
