-- The counts of an end, as functions of the channel.
use Rattle.std.specs.Prelude.{ℕ, slice_index_or}
use Rattle.ends.specs.declared.counts.Count.{Count}
use Rattle.ends.specs.declared.counts.Counts.{Counts}

abbrev pub none : ℕ → ℕ
none c = 0

-- nothing was counted
abbrev pub no_count : Count
no_count = record { submitted = 0; gone = 0 }

abbrev pub count_of : Counts → ℕ → Count
count_of s c = slice_index_or s.by_channel c no_count

abbrev pub submitted_of : Counts → ℕ → ℕ
submitted_of s c = (count_of s c).submitted

abbrev pub gone_of : Counts → ℕ → ℕ
gone_of s c = (count_of s c).gone
