-- How numbers are written with their words.
use Rattle.std.specs.Prelude.{ℕ, List, ◌++◌, if◌then◌else◌, ◌==◌, codes, decimal}
use Rattle.order.specs.declared.words.Kind.{Kind}
use Rattle.order.specs.declared.words.Kind.TheVariants.{Byte, Block}
use Rattle.order.specs.declared.words.Counted.{Counted}

abbrev pub counted : ℕ → Kind → Counted
counted n k = record { number = n; kind = k }

-- one of a kind, and several
abbrev pub one_of : Kind → List ℕ
one_of Byte = codes "byte"
one_of Block = codes "block"

abbrev pub many_of : Kind → List ℕ
many_of Byte = codes "bytes"
many_of Block = codes "blocks"

abbrev pub words_of : Counted → List ℕ
words_of c = decimal c.number
    ++ (codes " " ++ (if c.number == 1 then one_of c.kind else many_of c.kind))
