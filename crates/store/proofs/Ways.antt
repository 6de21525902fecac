-- How each call ends, for a store of any meaning.
use Rattle.std.proofs.Common.{◌≡◌, ℕ, ◌≤◌, List, ◌∷◌, length, drop, Ok, Err, ap, ◌∙◌}
use Rattle.std.proofs.lemmas.Bool.{eq-eqb, ne_eqb, cond-true, cond-false, le-ltb, or_from}
use Rattle.store.specs.declared.refusal.Refusal.TheVariants.{Full}
use Rattle.poll.specs.Channel.{last_channel}
use Rattle.frame.specs.Frame.{longest_block}
use Rattle.store.specs.Meaning.{Block, Meaning, with_channel, total}
use Rattle.store.specs.Rules.{if_granted, put_answer, put_after, joined, first_answer, first_waiting, granted, drop_answer, drop_after, shortened}

pub put_goes :
    (m : Meaning) (c : ℕ) (b : Block)
    → c ≤ last_channel
    → (length b.bytes ≡ 0 → ⊥)
    → length b.bytes ≤ longest_block
    → (total m ≡ m.limit → ⊥)
    → (put_answer m c b ≡ Ok tt) × (put_after m c b ≡ joined m c b)
put_goes m c b low some short room =
    let a : put_answer m c b ≡ Ok tt =
    cond-false _ _ _ (le-ltb last_channel c low)
    ∙ cond-false _ _ _ (or_from _ _ (ne_eqb (length b.bytes) 0 some) (le-ltb longest_block (length b.bytes) short))
    ∙ cond-false _ _ _ (ne_eqb (total m) m.limit room) in
    (a, ap (λ r. if_granted r (joined m c b) m) a)

pub put_stays :
    (m : Meaning) (c : ℕ) (b : Block)
    → c ≤ last_channel
    → (length b.bytes ≡ 0 → ⊥)
    → length b.bytes ≤ longest_block
    → total m ≡ m.limit
    → (put_answer m c b ≡ Err Full) × (put_after m c b ≡ m)
put_stays m c b low some short full =
    let a : put_answer m c b ≡ Err Full =
    cond-false _ _ _ (le-ltb last_channel c low)
    ∙ cond-false _ _ _ (or_from _ _ (ne_eqb (length b.bytes) 0 some) (le-ltb longest_block (length b.bytes) short))
    ∙ cond-true _ _ _ (eq-eqb (total m) m.limit full) in
    (a, ap (λ r. if_granted r (joined m c b) m) a)

-- a channel whose first block is b
pub first_goes : (m : Meaning) (c : ℕ) (b : Block) (bs : List Block) → c ≤ last_channel → m.waiting c ≡ b ∷ bs → first_waiting m c ≡ Ok b
first_goes m c b bs low e = cond-false _ _ _ (le-ltb last_channel c low) ∙ ap first_answer e

pub drop_goes :
    (m : Meaning) (c : ℕ) (b : Block) (bs : List Block) → c ≤ last_channel → m.waiting c ≡ b ∷ bs → (drop_answer m c ≡ Ok tt) × (drop_after m c ≡ with_channel m c bs)
drop_goes m c b bs low e =
    let a : drop_answer m c ≡ Ok tt = ap granted (first_goes m c b bs low e) in
    (a, ap (λ r. if_granted r (shortened m c) m) a ∙ ap (λ (v : List Block). with_channel m c (drop 1 v)) e)
