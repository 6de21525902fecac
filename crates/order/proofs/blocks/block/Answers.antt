-- What is cut off behind the earlier blocks is the block, and past the last number there is no byte.
use Rattle.std.proofs.Common.{◌≡◌, ℕ, ◌*◌, ◌<◌, min, List, ◌++◌, length, drop, Some, None, Option, sym, ap, ◌∙◌, subst, Bor, arith, length-drop}
use Rattle.std.proofs.lemmas.List.{take_rest}
use Rattle.std.specs.Option.{MatchOption}
use Rattle.order.specs.Blocks.{Blocks, BlockAt}
use Rattle.order.proofs.Cutting.{count_is, block_at, front_is}
use Rattle.order.proofs.blocks.block.Goals as goal

first_of : (text rest after : List ℕ) (k size : ℕ) (r : Option (Bor (List ℕ))) (Same : Type 0) → rest ≡ drop (256 * k) text → 256 * k < length text → size ≡ 256
    → MatchOption r ((length rest ≡ 0) × Same) (λ b. (rest ≡ b.now ++ after) × (length b.now ≡ min size (length rest)) × (0 < length rest)) → Blocks text k r
first_of text rest after k size None Same e h n s = let l = ap length e ∙ length-drop (256 * k) text in absurd (omega arith)
first_of text rest after k size (Some b) Same e h n s =
    let l = ap length e in
    subst (BlockAt text k) (front_is (drop (256 * k) text) b.now after (sym e ∙ s.0) (omega arith)) (block_at text k h)

pub returns-then-number-div_ceil : goal.returns-then-number-div_ceil
returns-then-number-div_ceil c = (omega arith, omega (arith, count_is c.args.text.now))

pub returns : goal.returns
returns c = first_of _ _ _ _ _ _ _ (c.chunks.ensures.rest ∙ take_rest c.args.text.now (256 * c.args.number)) (omega arith) c.chunks.ensures.size c.next.ensures.steps.1
