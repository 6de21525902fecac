-- The buffers that calls are given.
use Rattle.std.specs.Prelude.{ℕ, ◌-◌, List, ◌++◌, length, take, replicate}

-- a buffer of n bytes, as it is made
abbrev pub zeros : ℕ → List ℕ
zeros n = replicate n 0

-- a buffer at a new length: cut, or filled up with zeros
abbrev pub resized : ℕ → List ℕ → List ℕ
resized n bytes = take n bytes ++ zeros (n - length bytes)
