-- Blocks and their numbers at either end: what an answer names, what then leaves its store, submitting and collecting.
use Rattle.std.specs.Prelude.{ℕ, suc, min, Bool, true, false, cond, ◌&&◌, ◌||◌, length, Ok, Err, Result, ◌==◌, nat_lt}
use Rattle.poll.specs.Channel.{last_channel}
use Rattle.frame.specs.Frame.{longest_block}
use Rattle.store.specs.declared.refusal.Refusal.TheVariants.{BadChannel, BadLength}
use Rattle.store.specs.declared.refusal.Refusal as stores
use Rattle.store.specs.Meaning.{Block, Meaning}
use Rattle.store.specs.Rules.{if_granted, put_answer, joined, copy_source, length_of, drop_after}
use Rattle.ends.specs.declared.refusal.Refusal.{Refusal}
use Rattle.ends.specs.declared.refusal.Refusal.TheVariants.{Store, NumbersUsed}
use Rattle.ends.specs.Limits.{last_number}
use Rattle.ends.specs.Frames.{Cargo, empty, holds}

-- a function with its value at c put through f, where that is granted
abbrev pub changed : {A : Type 0} → Bool → ℕ → (A → A) → (ℕ → A) → ℕ → A
changed granted c f q x = cond (granted && x == c) (f (q x)) (q x)

-- the block that an answer names, by channel and number: as confirmed or as doubtful
pub data Word : Type 0 where
  silent : Word
  confirms : ℕ → ℕ → Word
  doubts : ℕ → ℕ → Word

abbrev pub confirm_of : ℕ → ℕ → Cargo → Word
confirm_of c n empty = silent
confirm_of c n (holds b) = confirms c n

abbrev pub doubt_of : ℕ → ℕ → Cargo → Word
doubt_of c n empty = silent
doubt_of c n (holds b) = doubts c n

-- the named block leaves its store (a refused drop-first is passed over), and counts as gone
abbrev pub leaves : Word → Meaning → Meaning
leaves silent m = m
leaves (confirms c n) m = drop_after m c
leaves (doubts c n) m = drop_after m c

abbrev pub one_more_counted : ℕ → ℕ
one_more_counted n = min (suc n) last_number

abbrev pub counts : Word → (ℕ → ℕ) → ℕ → ℕ
counts silent gone = gone
counts (confirms c n) gone = changed true c one_more_counted gone
counts (doubts c n) gone = changed true c one_more_counted gone

-- submit: the block's number on its channel, or the refusal; then the counts and the store
abbrev pub numbered : ℕ → Result (Unit {0}) stores.Refusal → Result ℕ Refusal
numbered n (Ok x) = Ok n
numbered n (Err e) = Err (Store e)

abbrev pub submit_answer : (ℕ → ℕ) → Meaning → ℕ → Block → Result ℕ Refusal
submit_answer submitted m c b =
    cond (nat_lt last_channel c) (Err (Store BadChannel))
    (cond (length b.bytes == 0 || nat_lt longest_block (length b.bytes)) (Err (Store BadLength))
    (cond (submitted c == last_number) (Err NumbersUsed)
    (numbered (suc (submitted c)) (put_answer m c b))))

abbrev pub granted : {X E : Type 0} → Result X E → Bool
granted (Ok x) = true
granted (Err e) = false

abbrev pub submit_counts : (ℕ → ℕ) → Meaning → ℕ → Block → ℕ → ℕ
submit_counts submitted m c b = changed (granted (submit_answer submitted m c b)) c suc submitted

abbrev pub submit_store : (ℕ → ℕ) → Meaning → ℕ → Block → Meaning
submit_store submitted m c b = if_granted (submit_answer submitted m c b) (joined m c b) m

-- a store's answer as the end's: its refusal comes up whole
abbrev pub whole : {X : Type 0} → Result X stores.Refusal → Result X Refusal
whole (Ok x) = Ok x
whole (Err e) = Err (Store e)

-- collect: copy-first and drop-first, into a buffer of n bytes
abbrev pub collect_answer : Meaning → ℕ → ℕ → Result ℕ Refusal
collect_answer m c n = whole (length_of (copy_source m c n))

abbrev pub collect_store : Meaning → ℕ → ℕ → Meaning
collect_store m c n = if_granted (copy_source m c n) (drop_after m c) m
