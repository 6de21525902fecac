-- The meaning of a store: what waits on every channel, in a list that begins with the oldest block, and a limit.
use Rattle.std.specs.Prelude.{ℕ, zero, suc, ◌+◌, cond, List, [], length, ◌==◌}
use Rattle.poll.specs.Channel.{channels}

-- a block as it waits
pub record Block : Type 0 where
  pub bytes : List ℕ

-- a block of which nothing but its bytes is known
abbrev pub plain : List ℕ → Block
plain bytes = record { bytes = bytes }

pub record Meaning : Type 0 where
  pub waiting : ℕ → List Block
  pub limit : ℕ

-- nothing waits
abbrev pub none : ℕ → List Block
none c = []

-- an empty store of that limit
abbrev pub empty : ℕ → Meaning
empty n = record { waiting = none; limit = n }

-- the blocks of channel c replaced, those of every other channel as they were
abbrev pub replaced : (ℕ → List Block) → ℕ → List Block → ℕ → List Block
replaced w c blocks k = cond (k == c) blocks (w k)

-- a store with the blocks of channel c replaced
abbrev pub with_channel : Meaning → ℕ → List Block → Meaning
with_channel m c blocks = record { waiting = replaced m.waiting c blocks; limit = m.limit }

-- how many wait on the channels below n together
unfoldable pub waiting_below : ℕ → (ℕ → List Block) → ℕ
waiting_below zero w = 0
waiting_below (suc n) w = waiting_below n w + length (w n)

-- how many wait on all channels together
abbrev pub total : Meaning → ℕ
total m = waiting_below channels m.waiting
