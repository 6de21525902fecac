-- The meaning of a store that keeps its blocks in order of arrival, for stores that are made so.
use Rattle.std.specs.Prelude.{◌≡◌, ℕ, suc, ◌<◌, ◌≤◌, cond, List, [], ◌∷◌, length, ◌==◌}
use Rattle.poll.specs.Channel.{last_channel}
use Rattle.frame.specs.Frame.{longest_block}
use Rattle.store.specs.Meaning.{Block, Meaning}

-- a block and its channel
pub record Entry : Type 0 where
  pub channel : ℕ
  pub block : Block

-- one that may wait
pub record Storable (x : Entry) : Type 0 where
  pub channel_low : x.channel ≤ last_channel
  pub some : 1 ≤ length x.block.bytes
  pub short : length x.block.bytes ≤ longest_block

-- the blocks of one channel
abbrev pub on : ℕ → List Entry → List Block
on c [] = []
on c (x ∷ xs) = cond (c == x.channel) (x.block ∷ on c xs) (on c xs)

-- the same as a function of the channel
abbrev pub view : List Entry → ℕ → List Block
view xs c = on c xs

abbrev pub arrived : List Entry → ℕ → Meaning
arrived xs n = record { waiting = view xs; limit = n }

-- all but the first of one channel
abbrev pub without : ℕ → List Entry → List Entry
without c [] = []
without c (x ∷ xs) = cond (c == x.channel) xs (x ∷ without c xs)

-- where the first of one channel stands among all; the number of all where it has none
abbrev pub place_of : ℕ → List Entry → ℕ
place_of c [] = 0
place_of c (x ∷ xs) = cond (c == x.channel) 0 (suc (place_of c xs))

-- the first of channel c stands at index i among all
pub record IsFirst (c : ℕ) (xs : List Entry) (i : ℕ) : Type 0 where
  pub channel_low : c ≤ last_channel
  pub here : i < length xs
  pub place : i ≡ place_of c xs
