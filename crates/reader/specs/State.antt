-- The parts of a frame, and what each state of a reader leaves room for.
use Rattle.std.specs.Prelude.{ℕ, ◌+◌, ◌-◌, ◌*◌, ◌≤◌, max}
use Rattle.frame.specs.Frame.{longest_body}
use Rattle.frame.specs.declared.form.Form.{Form}
use Rattle.frame.specs.declared.form.Form.TheVariants as form
use Rattle.reader.specs.declared.state.Part.{Part}
use Rattle.reader.specs.declared.state.Part.TheVariants.{Code, Count, Block, Text, Low, High}
use Rattle.reader.specs.declared.state.State.{State}
use Rattle.reader.specs.declared.state.State.TheVariants.{Waiting, Marked, Started, Inside, Escaped, Passed}

-- what follows a code byte, by the form of its frames
abbrev pub part_of : Form → Part
part_of form.Bare = Low
part_of form.Text = Text
part_of form.Counted = Count

-- how many bytes of the buffer are kept free at this part: the most that may still come of the body, but 2 of a text, whose
-- length is tested byte by byte; a block that is read has at least one to come
abbrev pub room_of : Part → ℕ
room_of Code = longest_body - 1
room_of Count = longest_body - 2
room_of (Block n) = max n 1
room_of Text = 2
room_of Low = 0
room_of (High low) = 0

abbrev pub room : State → ℕ
room Waiting = longest_body
room Marked = longest_body
room Started = longest_body
room (Inside p) = room_of p
room (Escaped p) = room_of p
room Passed = 0

-- the most raw bytes of a frame that were heard and are none of its body yet
abbrev pub outside_of : Part → ℕ
outside_of Code = 0
outside_of Count = 0
outside_of (Block n) = 0
outside_of Text = 0
outside_of Low = 0
outside_of (High low) = 2

abbrev pub outside : State → ℕ
outside Waiting = 0
outside Marked = 0
outside Started = 0
outside (Inside p) = outside_of p
outside (Escaped p) = outside_of p + 1
outside Passed = 0

-- a reader may stand so after that many bytes of a body and that many raw bytes
pub record Stands (state : State) (len raw : ℕ) : Type 0 where
  pub fits : len + room state ≤ longest_body
  pub counted : raw ≤ 2 * len + outside state
