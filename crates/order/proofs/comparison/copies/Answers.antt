-- The blocks that pass the test are counted.
use Rattle.std.proofs.Common.{sym, ◌∙◌, rules, tests, bytes_eq, vec_items}
use Rattle.std.proofs.lemmas.Iterator.{YieldsList-from_slice}
use Rattle.std.proofs.lemmas.Iterator.Consumers.{YieldsList-from_filter, count_from_yields_List}
use Rattle.std.proofs.lemmas.List.Sums.{length-filter}
use Rattle.order.proofs.Counting.{count_by-map}
use Rattle.order.proofs.comparison.copies.Goals as goal

pub returns : goal.returns
returns c =
    count_from_yields_List c.filter.result _ c.count.ensures.ran (YieldsList-from_filter _ (λ v. bytes_eq c.args.block.now (vec_items v)) (YieldsList-from_slice c.args.blocks.now cc) c.filter.ensures.closure (λ x r q k. search (rules, tests)))
    ∙ length-filter (λ v. bytes_eq c.args.block.now (vec_items v)) c.args.blocks.now ∙ sym (count_by-map vec_items (bytes_eq c.args.block.now) c.args.blocks.now)
