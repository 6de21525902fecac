use Rattle.std.proofs.Common.{take}
use Rattle.link.specs.Played.{both, Plays}
use Rattle.link.proofs.pair.Ends.play.Given as goal

-- the calls so far were played
abbrev pub invariant-loop-call : goal.invariant-loop-call
invariant-loop-call g l =
    let at = both g.A.Store.meaning g.B.Store.meaning g.C.Store.meaning g.D.Store.meaning in
    Plays g.W.Observer.gives g.W.Observer.sees (take l.call-index l.calls) (at l.initial.self l.initial.stores l.initial.wire l.initial.block) (at l.self l.stores l.wire l.block) l.initial.observer l.observer
