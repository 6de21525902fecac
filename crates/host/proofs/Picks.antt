-- The lowest channel with a block, and its first block, which is sent.
use Rattle.std.proofs.Common.{◌≡◌, ℕ, zero, suc, ◌+◌, ◌<◌, ◌≤◌, Bool, true, false, cond, nat_lt, List, [], ◌∷◌, length, Some, None, Option, sym, refl, ap, ◌∙◌, subst, add-one, arith, MatchOption}
use Rattle.std.specs.List.{find, range_with_len}
use Rattle.std.specs.Option.{option_map}
use native.Mathlib.Decide.{ℕ_discrete}
use Rattle.std.proofs.lemmas.List.{nil_from_length}
use Rattle.std.proofs.lemmas.Bool.{cond-false, le-ltb, ltb-true, ltb-false}
use Rattle.poll.specs.Channel.{last_channel, channels}
use Rattle.store.specs.Meaning.{Block, Meaning}
use Rattle.store.specs.Rules.{count_on}
use Rattle.poll.specs.declared.channel.Channel.{Channel}
use Rattle.ends.specs.declared.kept.KeptBlock.{KeptBlock}
use Rattle.ends.specs.Frames.{Request}
use Rattle.ends.specs.Kept.{block_of, first_of}
use Rattle.ends.specs.Host.{Pick, general_poll, send_block_of, or_else, lowest_below, pick, request_for}
use Rattle.host.specs.declared.answer.StepRule.TheVariants as step
use Rattle.host.specs.Asked.{block_request}
use Rattle.host.specs.Picked.{LowestIs}
use Rattle.host.specs.Answers.{step_rule_of}

-- none below n, and none at n
pub none_more : (w : ℕ → List Block) (n : ℕ) → lowest_below n w ≡ general_poll → w n ≡ [] → lowest_below (n + 1) w ≡ general_poll
unfolding lowest_below
none_more w n e f =
    ap (λ (k : ℕ). lowest_below k w) (add-one n) ∙ ap (λ (p : Pick). or_else p (w n) n) e ∙ ap (λ (l : List Block). or_else general_poll l n) f

-- the first at n, whatever lies above
found_at : (w : ℕ → List Block) (n k : ℕ) (b : Block) (bs : List Block) → lowest_below n w ≡ general_poll → w n ≡ b ∷ bs → n < k → lowest_below k w ≡ send_block_of n b
unfolding lowest_below
found_at w n zero b bs e f h = absurd (omega arith)
found_at w n (suc k) b bs e f h =
    elim (ℕ_discrete k n) [
      | yes q ↦ ap (λ (j : ℕ). lowest_below (suc j) w) q ∙ ap (λ (p : Pick). or_else p (w n) n) e ∙ ap (λ (l : List Block). or_else general_poll l n) f
      | no q ↦ ap (λ (p : Pick). or_else p (w k) k) (found_at w n k b bs e f (omega arith))
    ]

pub found : (w : ℕ → List Block) (n : ℕ) → lowest_below n w ≡ general_poll → n ≤ last_channel → (b : Block) (bs : List Block) → w n ≡ b ∷ bs → lowest_below channels w ≡ send_block_of n b
found w n e low b bs f = found_at w n channels b bs e f (omega arith)

-- a count of a channel
pub count_is : (m : Meaning) (c : ℕ) → c ≤ last_channel → count_on m c ≡ length (m.waiting c)
count_is m c low = cond-false _ _ _ (le-ltb last_channel c low)

-- the search for the first channel that counts a block
module _ (m : Meaning) where
  abbrev pub has_block : ℕ → Bool
  has_block c = nat_lt 0 (count_on m c)

  abbrev pub Searched : Option ℕ → Type 0
  Searched None = lowest_below channels m.waiting ≡ general_poll
  Searched (Some n) = (n ≤ last_channel) × ((lowest_below n m.waiting ≡ general_poll) × (0 < count_on m n))

  pub searched : (k n : ℕ) → n + k ≡ channels → lowest_below n m.waiting ≡ general_poll → Searched (find has_block (range_with_len n k))
  searched zero n e none = let same : n ≡ channels = omega arith in subst (λ (x : ℕ). lowest_below x m.waiting ≡ general_poll) same none
  searched (suc k) n e none = go (has_block n) refl (searched k (n + 1) (omega arith))
    where
      low : n ≤ last_channel
      low = omega arith

      above : Option ℕ
      above = find has_block (range_with_len (n + 1) k)

      go : (t : Bool) → has_block n ≡ t → (lowest_below (n + 1) m.waiting ≡ general_poll → Searched above) → Searched (cond t (Some n) above)
      go true q on = (low, (none, ltb-true 0 (count_on m n) q))
      go false q on =
          let l = count_is m n low in
          let h = ltb-false 0 (count_on m n) q in
          on (none_more m.waiting n none (nil_from_length (m.waiting n) (omega arith)))

  -- the channel that was found
  pub lowest_is : (o : Option ℕ) (r : Option Channel) → Searched o → MatchOption o (r ≡ None) (λ n. MatchOption r (last_channel < n) (λ c. (c.number ≡ n) × (n ≤ last_channel))) → LowestIs m.waiting r
  lowest_is None r s made = subst (LowestIs m.waiting) (sym made) s
  lowest_is (Some n) None s made = absurd (omega arith)
  lowest_is (Some n) (Some c) s made =
      let l = count_is m n s.0 in
      let same : c.number ≡ n = made.0 in
      let here : m.waiting c.number ≡ m.waiting n = ap m.waiting same in
      let k = ap length here in
      (omega arith, λ b bs f. found m.waiting n s.1.0 s.0 b bs (sym here ∙ f) ∙ ap (λ (j : ℕ). send_block_of j b) (sym same))

-- the block that is kept of it is its first
pub first_kept : (r : Option KeptBlock) (k : KeptBlock) (blocks : List Block) (b : Block) (bs : List Block) → option_map block_of r ≡ first_of blocks → r ≡ Some k → blocks ≡ b ∷ bs → block_of k ≡ b
first_kept r k blocks b bs first some here =
    let e : Some (block_of k) ≡ Some b = ap (option_map block_of) (sym some) ∙ first ∙ ap first_of here in
    cc

-- its block is what is sent
pub sends_block :
    (w : ℕ → List Block) (c : ℕ) (toggle : Bool) (q : Request)
    → 1 ≤ length (w c)
    → ((b : Block) (bs : List Block) → w c ≡ b ∷ bs → lowest_below channels w ≡ send_block_of c b)
    → ((b : Block) (bs : List Block) → w c ≡ b ∷ bs → q ≡ block_request c false toggle b)
    → (step.Block ≡ step_rule_of (lowest_below channels w)) × (q ≡ request_for toggle (lowest_below channels w))
sends_block w c toggle q some lowest sent = go (w c) refl
  where
    go : (l : List Block) → w c ≡ l → (step.Block ≡ step_rule_of (lowest_below channels w)) × (q ≡ request_for toggle (lowest_below channels w))
    go [] e = absurd (let k = ap length e in omega arith)
    go (b ∷ l) e = (sym (ap step_rule_of (lowest b l e)), sent b l e ∙ sym (ap (request_for toggle) (lowest b l e)))

pub pick_lowest : (refused : Bool) (list : List ℕ) (w : ℕ → List Block) → refused ≡ false → list ≡ [] → pick refused list w ≡ lowest_below channels w
pick_lowest refused list w e f = ap (λ (r : Bool). pick r list w) e ∙ ap (λ (l : List ℕ). pick false l w) f
