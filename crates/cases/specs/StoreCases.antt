-- The cases of the stores that are proved, together, as one fact of the rules.
use Rattle.std.specs.Prelude.{◌≡◌, ℕ, ◌≤◌, length, Ok, Err, ◌≢◌}
use Rattle.store.specs.declared.refusal.Refusal.TheVariants.{BadChannel, BadLength}
use Rattle.store.specs.Meaning.{Block, Meaning, total}
use Rattle.store.specs.Rules.{put_answer, put_after}
use Rattle.store.specs.Refusal as stores
use Rattle.strip.specs.declared.Strip.{Strip}
use Rattle.strip.specs.Shown.{area_of, shown}

pub record StoreCases : Type 0 where
  -- a block of 256 bytes goes into a store that has room, and 257 give refusal 11
  pub block_256 : (m : Meaning) (c : ℕ) (b : Block)
      → c ≤ 63 → (total m ≢ m.limit) → length b.bytes ≡ 256 → put_answer m c b ≡ Ok tt
  pub block_257 : (m : Meaning) (c : ℕ) (b : Block)
      → c ≤ 63 → length b.bytes ≡ 257
      → (put_answer m c b ≡ Err BadLength) × (put_after m c b ≡ m)
  pub number_11 : stores.refusal_number BadLength ≡ 11
  -- a block on channel 63 goes into a store that has room, and channel 64 gives refusal 10
  pub channel_63 : (m : Meaning) (b : Block)
      → 1 ≤ length b.bytes → length b.bytes ≤ 256 → (total m ≢ m.limit)
      → put_answer m 63 b ≡ Ok tt
  pub channel_64 : (m : Meaning) (b : Block)
      → (put_answer m 64 b ≡ Err BadChannel) × (put_after m 64 b ≡ m)
  pub number_10 : stores.refusal_number BadChannel ≡ 10
  -- a strip of 516 bytes has limit 2, one of 515 limit 1
  pub strip_516 : (s : Strip) → length (area_of s) ≡ 516 → (shown s).limit ≡ 2
  pub strip_515 : (s : Strip) → length (area_of s) ≡ 515 → (shown s).limit ≡ 1
