-- The records of a strip's area: channel, length less 1, bytes; back to back from the start.
use Rattle.std.specs.Prelude.{ℕ, zero, suc, ◌+◌, ◌-◌, ◌/◌, Bool, ◌&&◌, List, [], ◌∷◌, ◌++◌, length, take, drop, nat_le, slice_index}
use Rattle.std.specs.List.{flat_map, list_all}
use Rattle.poll.specs.Channel.{last_channel}
use Rattle.frame.specs.Frame.{longest_block}
use Rattle.store.specs.Meaning.{plain}
use Rattle.store.specs.Arrival.{Entry}

-- the length of the longest record, which is that of the shortest area, and of the longest area
abbrev pub record_size : ℕ
record_size = longest_block + 2

abbrev pub longest_area : ℕ
longest_area = 65536

-- how many blocks an area of n bytes is good for
abbrev pub limit_of : ℕ → ℕ
limit_of n = n / record_size

-- the bytes of one record, and of records back to back
abbrev pub record_of : Entry → List ℕ
record_of x = x.channel ∷ (length x.block.bytes - 1) ∷ x.block.bytes

abbrev pub laid : List Entry → List ℕ
laid xs = flat_map record_of xs

-- an area with records laid from its start, and the bytes past them as they were
abbrev pub laid_over : List Entry → List ℕ → List ℕ
laid_over xs area = laid xs ++ drop (length (laid xs)) area

-- the record that bytes begin with, and the first n records
abbrev pub front_of : List ℕ → Entry
front_of s = record { channel = slice_index s 0; block = plain (take (slice_index s 1 + 1) (drop 2 s)) }

abbrev pub parsed : ℕ → List ℕ → List Entry
parsed zero s = []
parsed (suc n) s = front_of s ∷ parsed n (drop (slice_index s 1 + 3) s)

-- each record has a channel and a block that may wait
abbrev pub storable_test : Entry → Bool
storable_test x = nat_le x.channel last_channel && (nat_le 1 (length x.block.bytes) && nat_le (length x.block.bytes) longest_block)

abbrev pub all_storable : List Entry → Bool
all_storable xs = list_all storable_test xs
