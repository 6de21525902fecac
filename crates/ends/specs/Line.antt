-- A reader that has heard its line from the beginning, and what it then shows.
use Rattle.std.specs.Prelude.{◌≡◌, ℕ, List}
use Rattle.frame.specs.declared.form.Direction.{Direction}
use Rattle.frame.specs.Frame.{Frame, Body}
use Rattle.reader.specs.Read.{Meaning, fresh}
use Rattle.reader.specs.Laws.{Bytes, after}

abbrev pub FromStart : Meaning → Type 0
FromStart m = (bytes : List ℕ) × Bytes bytes × (m ≡ after (fresh m.direction) bytes)

-- the frame whose body it is
abbrev pub FrameIn : Direction → List ℕ → Type 0
FrameIn d body = (f : Frame) × Body d body f
