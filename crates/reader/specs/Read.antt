-- What a reader makes of each byte: one step for every state and byte.
use Rattle.std.specs.Prelude.{ℕ, ◌+◌, ◌-◌, Bool, true, cond, List, [], ◌∷◌, ◌++◌, length, Some, None, Ok, Err, Option, Result, ◌==◌, nat_le, nat_lt}
use Rattle.fcs.specs.Fcs.{extended, register_of, residue}
use Rattle.frame.specs.declared.form.Direction.{Direction}
use Rattle.frame.specs.declared.form.Form.{Form}
use Rattle.poll.specs.Channel.{last_channel}
use Rattle.frame.specs.Frame.{form_of, code_in, general, longest_text}
use Rattle.wire.specs.Wire.{mark}
use Rattle.reader.specs.declared.fault.Layer.TheVariants as layer
use Rattle.reader.specs.declared.fault.Reason.{Reason}
use Rattle.reader.specs.declared.fault.Reason.TheVariants.{StrayMark, BadChannel, UnknownCode, EndlessText, BadChecksum, NewFrame}
use Rattle.reader.specs.declared.fault.Fault.{Fault}
use Rattle.reader.specs.declared.state.Part.{Part}
use Rattle.reader.specs.declared.state.Part.TheVariants.{Code, Count, Block, Text, Low, High}
use Rattle.reader.specs.declared.state.State.{State}
use Rattle.reader.specs.declared.state.State.TheVariants.{Waiting, Marked, Started, Inside, Escaped, Passed}
use Rattle.reader.specs.declared.state.Heard.{Heard}
use Rattle.reader.specs.declared.state.Heard.TheVariants.{More, Frame}
use Rattle.reader.specs.declared.reader.Reader.{Reader}
use Rattle.reader.specs.State.{part_of}

-- a reader by what it knows: its direction, where it stands, the bytes of the body so far, and the raw bytes since the channel byte
pub record Meaning : Type 0 where
  pub direction : Direction
  pub state : State
  pub bytes : List ℕ
  pub raw : ℕ

abbrev pub at : Direction → State → List ℕ → ℕ → Meaning
at d s bs n = record { direction = d; state = s; bytes = bs; raw = n }

abbrev pub meaning : Reader → Meaning
meaning r = at r.direction r.state r.body r.raw

abbrev pub fresh : Direction → Meaning
fresh d = at d Waiting [] 0

-- the body that passed with the last byte
abbrev pub passed_at : State → List ℕ → Option (List ℕ)
passed_at Waiting bs = None
passed_at Marked bs = None
passed_at Started bs = None
passed_at (Inside p) bs = None
passed_at (Escaped p) bs = None
passed_at Passed bs = Some bs

abbrev pub passed : Meaning → Option (List ℕ)
passed m = passed_at m.state m.bytes

-- the reader after a byte, and its answer
pub record Next : Type 0 where
  pub then : Meaning
  pub says : Result Heard Fault

abbrev pub goes : Meaning → Next
goes m = record { then = m; says = Ok More }

-- the frame goes on with this part
abbrev pub inside : Direction → Part → List ℕ → ℕ → Next
inside d p bs n = goes (at d (Inside p) bs n)

-- a fault at the n-th raw byte, and the reader it leaves
abbrev pub fault_of : Reason → ℕ → Fault
fault_of reason n = record { layer = layer.Reader; reason = reason; count = n }

abbrev pub faulty : Reason → ℕ → Meaning → Next
faulty reason n m = record { then = m; says = Err (fault_of reason n) }

abbrev pub drops : Direction → Reason → ℕ → Next
drops d reason n = faulty reason n (fresh d)

-- whether a byte is a channel byte
abbrev pub is_channel : ℕ → Bool
is_channel b = cond (nat_le b last_channel) true (b == general)

abbrev pub with_channel : Direction → ℕ → Next
with_channel d b = cond (is_channel b) (inside d Code (b ∷ []) 1) (drops d BadChannel 1)

-- what comes after a code byte, by the form of its frames
abbrev pub with_code : Direction → Option Form → List ℕ → ℕ → Next
with_code d None bs n = drops d UnknownCode n
with_code d (Some m) bs n = inside d (part_of m) bs n

-- one byte more of a frame, which is the n-th raw one
abbrev pub with_byte : Direction → Part → List ℕ → ℕ → ℕ → Next
with_byte d Code bs n b = with_code d (form_of d (code_in b)) (bs ++ b ∷ []) n
with_byte d Count bs n b = inside d (Block (b + 1)) (bs ++ b ∷ []) n
with_byte d (Block k) bs n b = inside d (cond (nat_lt 1 k) (Block (k - 1)) Low) (bs ++ b ∷ []) n
with_byte d Text bs n b =
    cond (b == 0) (inside d Low (bs ++ b ∷ []) n)
    (cond (nat_lt (length bs) (longest_text + 2)) (inside d Text (bs ++ b ∷ []) n) (drops d EndlessText n))
with_byte d Low bs n b = inside d (High b) bs n
with_byte d (High low) bs n b =
    cond (extended (register_of bs) (low ∷ b ∷ []) == residue) (record { then = at d Passed bs 0; says = Ok Frame }) (drops d BadChecksum n)

-- one byte from the line
abbrev pub hears_at : Direction → State → List ℕ → ℕ → ℕ → Next
hears_at d Waiting bs n b = cond (b == mark) (goes (at d Marked [] 0)) (goes (fresh d))
hears_at d Passed bs n b = cond (b == mark) (goes (at d Marked [] 0)) (goes (fresh d))
hears_at d Marked bs n b = cond (b == mark) (goes (at d Started [] 0)) (goes (fresh d))
hears_at d Started bs n b = cond (b == mark) (goes (at d Started [] 0)) (with_channel d b)
hears_at d (Inside p) bs n b = cond (b == mark) (goes (at d (Escaped p) bs (n + 1))) (with_byte d p bs (n + 1) b)
hears_at d (Escaped p) bs n b =
    cond (b == mark) (faulty NewFrame (n + 1) (at d Started [] 0))
    (cond (b == 0) (with_byte d p bs (n + 1) mark) (drops d StrayMark (n + 1)))

abbrev pub hears : Meaning → ℕ → Next
hears m b = hears_at m.direction m.state m.bytes m.raw b

-- The same steps of a reader in place: with no frame, one raw byte on, with a byte kept, and with a byte of the frame.
abbrev pub without : Reader → State → Meaning
without r s = at r.direction s [] 0

abbrev pub on_to : Reader → State → Meaning
on_to r s = at r.direction s (meaning r).bytes (r.raw + 1)

abbrev pub keeps : Reader → Part → ℕ → Meaning
keeps r p b = at r.direction (Inside p) ((meaning r).bytes ++ b ∷ []) (r.raw + 1)

abbrev pub adds : Reader → Part → ℕ → Next
adds r p b = with_byte r.direction p (meaning r).bytes (r.raw + 1) b
