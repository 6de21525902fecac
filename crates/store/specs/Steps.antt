-- The calls that a list of steps asks for.
use Rattle.std.specs.Prelude.{List, map}
use Rattle.store.specs.declared.play.Step.{Step}
use Rattle.store.specs.declared.play.Step.TheVariants.{Put, DropFirst}
use Rattle.store.specs.Meaning.{plain}
use Rattle.store.specs.Calls.{Call, put, drop_first}

abbrev pub call_of : Step → Call
call_of (Put c block) = put c (plain block.now)
call_of (DropFirst c) = drop_first c

abbrev pub calls_of : List Step → List Call
calls_of steps = map call_of steps
