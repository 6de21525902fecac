-- What a call leaves in the wire buffer.
use Rattle.std.specs.Prelude.{ℕ, List, ◌++◌, length, drop}
use Rattle.wire.specs.Wire.{wire_of}
use Rattle.ends.specs.Frames.{Request, Answer, request_body, answer_body, Written, nothing, one}

-- the wire form of a body at the start of the buffer, the rest as before
abbrev pub over_wire : List ℕ → List ℕ → List ℕ
over_wire body old = wire_of body ++ drop (length (wire_of body)) old

abbrev pub request_wire : Written Request → List ℕ → List ℕ
request_wire nothing old = old
request_wire (one q) old = over_wire (request_body q) old

abbrev pub answer_wire : Written Answer → List ℕ → List ℕ
answer_wire nothing old = old
answer_wire (one a) old = over_wire (answer_body a) old

-- the length answered of a frame that was sent
abbrev pub request_length : Request → ℕ
request_length q = length (wire_of (request_body q))

abbrev pub answer_length : Answer → ℕ
answer_length a = length (wire_of (answer_body a))
