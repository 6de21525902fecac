use Rattle.std.proofs.Common.{◌≡◌, ◌++◌, map, take}
use Rattle.replay.specs.Ending.{note_line}
use Rattle.replay.proofs.ending.push_notes.Given as goal

abbrev pub invariant-loop-kept : goal.invariant-loop-kept
invariant-loop-kept l = (l.kept-items ≡ l.notes.kept.items)
    × (l.lines.items ≡ l.fn.lines.items ++ map note_line (take l.kept-index l.kept-items))
