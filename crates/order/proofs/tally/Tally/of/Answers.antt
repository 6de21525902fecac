-- The block at the place is counted, and has its rank.
use Rattle.std.proofs.Common.{◌≡◌, ◌+◌, ◌<◌, length, vec_items, sym, ap, ◌∙◌, arith}
use Rattle.std.proofs.lemmas.List.{length-map}
use Rattle.order.specs.Blocks.{bytes_of}
use Rattle.order.specs.Tally.{met_in}
use Rattle.order.proofs.Counting.{block_is}
use Rattle.order.proofs.Tallying.{tallied_next}
use Rattle.order.proofs.tally.Tally.of.Goals as goal

pub loop-block-preserved : goal.loop-block-preserved
loop-block-preserved c =
    let blocks = c.args.blocks.now in
    let n = c.loop-block.block-index in
    let times = c.loop-block.times in
    let key = c.as_slice-in-loop-block in
    let low : n < length blocks = omega (arith, c.loop-block-test.true, c.loop-block.auto.block-index-end) in
    let at = key.ensures.value ∙ block_is blocks n c.block-item.result low c.block-item.is in
    let rank_is : c.met-rank.result + 1 ≡ met_in times key.result.now + 1 =
    ap (λ m. m + 1) (c.met-rank.ensures ∙ ap (met_in times) (c.as_slice.ensures.value ∙ sym key.ensures.value)) in
    tallied_next (bytes_of blocks) n times c.insert.new.self c.loop-block.ranks.items c.push.new.self.items key.result.now (c.met-rank.result + 1)
    (omega (arith, low, length-map blocks vec_items)) at c.in_ok-insert.ensures.updates rank_is c.in_ok-push.ensures.items c.loop-block.invariant
