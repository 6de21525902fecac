-- The blocks of a text: as long as a block may be, and the last with what is left.
use Rattle.std.specs.Prelude.{◌≡◌, ℕ, zero, suc, ◌+◌, ◌-◌, ◌*◌, ◌/◌, ◌≤◌, List, [], ◌∷◌, map, length, take, drop, Some, None, Option, slice_index_or, Vec, vec_items}
use Rattle.std.specs.Borrow.{Bor}
use Rattle.std.specs.List.{flat_map}
use Rattle.frame.specs.Frame.{longest_block}

-- the first n blocks
unfoldable pub first_blocks : ℕ → List ℕ → List (List ℕ)
first_blocks zero text = []
first_blocks (suc n) text = take longest_block text ∷ first_blocks n (drop longest_block text)

unfoldable pub blocks_of : List ℕ → List (List ℕ)
blocks_of text = first_blocks ((length text + (longest_block - 1)) / longest_block) text

-- the blocks one after the other are the text
abbrev pub Whole : List ℕ → Type 0
Whole text = flat_map (λ (b : List ℕ). b) (blocks_of text) ≡ text

-- block number k of a text
pub record BlockAt (text : List ℕ) (k : ℕ) (b : List ℕ) : Type 0 where
  pub listed : b ≡ slice_index_or (blocks_of text) k []
  pub bytes : b ≡ take longest_block (drop (longest_block * k) text)
  pub some : 1 ≤ length b
  pub few : length b ≤ longest_block

-- the answer for a number: a block, or none where the text has no byte there
abbrev pub Blocks : List ℕ → ℕ → Option (Bor (List ℕ)) → Type 0
Blocks text k None = (length text ≤ longest_block * k) × (length (blocks_of text) ≤ k)
Blocks text k (Some b) = BlockAt text k b.now

-- the bytes of each block
abbrev pub bytes_of : {Z : Type 0} → List (Vec ℕ Z) → List (List ℕ)
bytes_of blocks = map vec_items blocks
