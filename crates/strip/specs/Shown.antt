-- What a strip means, and what is found in its area.
use Rattle.std.specs.Prelude.{◌≡◌, ℕ, ◌+◌, ◌≤◌, List, [], length, take, drop, slice_index_or}
use Rattle.frame.specs.Frame.{longest_block}
use Rattle.store.specs.Meaning.{Meaning, plain}
use Rattle.store.specs.Arrival.{Entry, arrived, place_of, IsFirst}
use Rattle.strip.specs.declared.Strip.{Strip}
use Rattle.strip.specs.declared.records.Record.{Record}
use Rattle.strip.specs.Records.{longest_area, limit_of, laid, parsed}

-- all bytes of the area, and the records in it, in order of arrival
abbrev pub area_of : Strip → List ℕ
area_of s = s.area.now

abbrev pub records : Strip → List Entry
records s = parsed s.held (area_of s)

abbrev pub shown : Strip → Meaning
shown s = arrived (records s) (limit_of (length (area_of s)))

-- the record of a number; none past the last
abbrev pub no_entry : Entry
no_entry = record { channel = 0; block = plain [] }

abbrev pub record_at : Strip → ℕ → Entry
record_at s k = slice_index_or (records s) k no_entry

-- the first of a channel's records: where it begins, how long its block is, and that both lie in the area
pub record FirstOn (s : Strip) (channel : ℕ) (r : Record) : Type 0 where
  pub first : IsFirst channel (records s) (place_of channel (records s))
  pub at_is : r.at ≡ length (laid (take (place_of channel (records s)) (records s)))
  pub len_is : r.len ≡ length (record_at s (place_of channel (records s))).block.bytes
  pub block_is : take r.len (drop (r.at + 2) (area_of s)) ≡ (record_at s (place_of channel (records s))).block.bytes
  pub some : 1 ≤ r.len
  pub short : r.len ≤ longest_block
  pub fits : r.at + 2 + r.len ≤ s.used
  pub inside : s.used ≤ length (area_of s)
  pub small : length (area_of s) ≤ longest_area
