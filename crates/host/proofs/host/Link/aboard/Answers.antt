-- The block on its way is the one kept.
use Rattle.std.proofs.Common.{rules}
use Rattle.ends.specs.Kept.{block_of}
use Rattle.host.proofs.host.Link.aboard.Goals as goal

pub returns-in-OnItsWay-Block-default : goal.returns-in-OnItsWay-Block-default
returns-in-OnItsWay-Block-default c = ((block_of c.in-OnItsWay-Block-default.field-0-1, search rules), search rules)
