-- What is listed so far, and what is still to list, is the whole list.
use Rattle.std.proofs.Common.{◌≡◌, ◌≤◌, ◌++◌, length, take, drop}
use Rattle.poll.specs.List.{listed_from, list_of}
use Rattle.poll.proofs.list.ListText.of.Given as goal

abbrev pub invariant-loop-place : goal.invariant-loop-place
invariant-loop-place l =
    (length l.values ≡ 64) × (l.len ≤ l.place)
    × (take l.len l.values ++ listed_from l.place (drop l.place l.waiting) ≡ list_of l.waiting)
