-- The block that an end keeps, and the first of those that wait.
use Rattle.std.specs.Prelude.{List, [], ◌∷◌, Some, None, Option, take}
use Rattle.store.specs.Meaning.{Block, plain}
use Rattle.ends.specs.declared.kept.KeptBlock.{KeptBlock}

abbrev pub block_of : KeptBlock → Block
block_of k = plain (take k.len k.bytes)

abbrev pub first_of : List Block → Option Block
first_of [] = None
first_of (b ∷ blocks) = Some b
