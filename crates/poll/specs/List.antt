-- Poll lists: which byte strings are good lists, what is left to poll, and how a list is written.
use Rattle.std.specs.Prelude.{◌≡◌, ℕ, ◌+◌, ◌<◌, ◌≤◌, Bool, true, false, cond, List, [], ◌∷◌, map, length, take, drop, ◌≢◌, slice_index, slice_index_or}
use Rattle.poll.specs.Channel.{channels}
use Rattle.poll.specs.declared.channel.Channel.{Channel}
use Rattle.poll.specs.declared.list.PollList.{PollList}
use Rattle.poll.specs.declared.list.ListText.{ListText}

-- none of the values is v
abbrev pub Fresh : List ℕ → ℕ → Type 0
Fresh xs v = (k : ℕ) → k < length xs → slice_index xs k ≢ v

-- a good list up to its place n: each value is a channel's number and 1, and differs from those before it
abbrev pub GoodTo : List ℕ → ℕ → Type 0
GoodTo xs n = (k : ℕ) → k < n → (1 ≤ slice_index xs k) × (slice_index xs k ≤ channels) × Fresh (take k xs) (slice_index xs k)

abbrev pub GoodList : List ℕ → Type 0
GoodList xs = GoodTo xs (length xs)

-- the channels of a list left to poll, first to last
abbrev pub polled : PollList → List ℕ
polled l = map (λ (c : Channel). c.number) (drop l.next (take l.len l.channels))

-- the list that names each waiting channel, from channel c on: its number and 1, ascending
abbrev pub listed_from : ℕ → List Bool → List ℕ
listed_from c [] = []
listed_from c (w ∷ ws) = cond w ((c + 1) ∷ listed_from (c + 1) ws) (listed_from (c + 1) ws)

abbrev pub list_of : List Bool → List ℕ
list_of waiting = listed_from 0 waiting

-- the bytes of a written list
abbrev pub text_of : ListText → List ℕ
text_of t = take t.len t.values

-- the list names exactly the waiting channels
abbrev pub Names : List Bool → List ℕ → Type 0
Names waiting xs = (c : ℕ) → c < channels →
    (slice_index_or waiting c false ≡ true → (k : ℕ) × (k < length xs) × (slice_index xs k ≡ c + 1))
    × (slice_index_or waiting c false ≡ false → Fresh xs (c + 1))

-- each value is above the one before it, so each channel is named once
abbrev pub Ascends : List ℕ → Type 0
Ascends xs = (j k : ℕ) → j < k → k < length xs → slice_index xs j < slice_index xs k
