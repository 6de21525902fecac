-- What each call on a store answers, and what the store means after it.
use Rattle.std.specs.Prelude.{ℕ, cond, ◌||◌, List, [], ◌∷◌, ◌++◌, length, drop, Ok, Err, Result, ◌==◌, nat_lt}
use Rattle.poll.specs.Channel.{last_channel}
use Rattle.frame.specs.Frame.{longest_block}
use Rattle.store.specs.declared.refusal.Refusal.{Refusal}
use Rattle.store.specs.declared.refusal.Refusal.TheVariants.{BadChannel, BadLength, Full, NoneWaiting, ShortBuffer}
use Rattle.store.specs.Meaning.{Block, Meaning, with_channel, total}

-- y where the answer grants, z where it refuses
abbrev pub if_granted : {X Y E : Type 0} → Result X E → Y → Y → Y
if_granted (Ok x) y z = y
if_granted (Err e) y z = z

-- put: the block joins the end of its channel
abbrev pub put_answer : Meaning → ℕ → Block → Result (Unit {0}) Refusal
put_answer m c b =
    cond (nat_lt last_channel c) (Err BadChannel)
    (cond (length b.bytes == 0 || nat_lt longest_block (length b.bytes)) (Err BadLength)
    (cond (total m == m.limit) (Err Full) (Ok tt)))

abbrev pub joined : Meaning → ℕ → Block → Meaning
joined m c b = with_channel m c (m.waiting c ++ b ∷ [])

abbrev pub put_after : Meaning → ℕ → Block → Meaning
put_after m c b = if_granted (put_answer m c b) (joined m c b) m

-- the first block of a channel, or the refusal
abbrev pub first_answer : List Block → Result Block Refusal
first_answer [] = Err NoneWaiting
first_answer (b ∷ bs) = Ok b

abbrev pub first_waiting : Meaning → ℕ → Result Block Refusal
first_waiting m c = cond (nat_lt last_channel c) (Err BadChannel) (first_answer (m.waiting c))

-- copy-first: the block that is copied into a buffer of n bytes, the length answered, and the buffer after it
abbrev pub copy_source : Meaning → ℕ → ℕ → Result Block Refusal
copy_source m c n = cond (nat_lt n longest_block) (Err ShortBuffer) (first_waiting m c)

abbrev pub length_of : Result Block Refusal → Result ℕ Refusal
length_of (Ok b) = Ok (length b.bytes)
length_of (Err e) = Err e

abbrev pub written_over : Result Block Refusal → List ℕ → List ℕ
written_over (Ok b) old = b.bytes ++ drop (length b.bytes) old
written_over (Err e) old = old

-- drop-first: that block leaves its channel
abbrev pub granted : Result Block Refusal → Result (Unit {0}) Refusal
granted (Ok b) = Ok tt
granted (Err e) = Err e

abbrev pub drop_answer : Meaning → ℕ → Result (Unit {0}) Refusal
drop_answer m c = granted (first_waiting m c)

abbrev pub shortened : Meaning → ℕ → Meaning
shortened m c = with_channel m c (drop 1 (m.waiting c))

abbrev pub drop_after : Meaning → ℕ → Meaning
drop_after m c = if_granted (drop_answer m c) (shortened m c) m

-- a channel's count, 0 above the highest
abbrev pub count_on : Meaning → ℕ → ℕ
count_on m c = cond (nat_lt last_channel c) 0 (length (m.waiting c))
