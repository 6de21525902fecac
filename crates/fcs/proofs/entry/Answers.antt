-- The table's rule, by one test of all of its entries.
use Rattle.std.proofs.Common.{rules}
use Rattle.fcs.specs.Fcs.{eight}
use Rattle.fcs.proofs.Table.{table_right}
use Rattle.fcs.proofs.entry.Goals as goal

pub returns : goal.returns
unfolding eight
returns c = search (rules, table_right)
