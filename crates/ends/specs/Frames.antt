-- Frames as the ends see them: what a host's frame asks, and what a TNC's frame answers.
use Rattle.std.specs.Prelude.{ℕ, pred, ◌-◌, Bool, true, false, cond, not, ◌&&◌, List, [], ◌∷◌, length, take, drop, Some, None, Option, ◌==◌, nat_le, slice_index}
use Rattle.poll.specs.Channel.{channels}
use Rattle.frame.specs.declared.form.Direction.{Direction}
use Rattle.frame.specs.declared.form.Direction.TheVariants.{FromHost, FromTnc}
use Rattle.frame.specs.declared.form.Form.{Form}
use Rattle.frame.specs.declared.form.Form.TheVariants as form
use Rattle.frame.specs.Frame.{Frame, body_of, form_of, code_in, frame_in}
use Rattle.store.specs.Meaning.{Block, plain}

-- what a frame of the host carries: the poll "G", a block, or another command
pub data Load : Type 0 where
  poll : Load
  information : Block → Load
  command : List ℕ → Load

pub record Request : Type 0 where
  pub channel : ℕ
  pub reset : Bool
  pub toggle : Bool
  pub load : Load

-- what a frame of the TNC carries: nothing, a message or list, why not, a block, or what no rule asks for
pub data Reply : Type 0 where
  success : Reply
  message : List ℕ → Reply
  failure : List ℕ → Reply
  block : Block → Reply
  other : ℕ → List ℕ → Reply

pub record Answer : Type 0 where
  pub channel : ℕ
  pub reset : Bool
  pub toggle : Bool
  pub reply : Reply

-- the poll command, "G"
abbrev pub poll_text : List ℕ
poll_text = 71 ∷ []

-- requests as frames, and back
abbrev pub load_code : Load → ℕ
load_code poll = 1
load_code (information b) = 0
load_code (command p) = 1

abbrev pub load_payload : Load → List ℕ
load_payload poll = poll_text
load_payload (information b) = b.bytes
load_payload (command p) = p

abbrev pub request_frame : Request → Frame
request_frame q = record { channel = q.channel; code = load_code q.load; reset = q.reset; toggle = q.toggle; payload = load_payload q.load }

abbrev pub command_in : List ℕ → Load
command_in [] = command []
command_in (v ∷ []) = cond (v == 71) poll (command (v ∷ []))
command_in (v ∷ u ∷ p) = command (v ∷ u ∷ p)

abbrev pub load_in : ℕ → List ℕ → Load
load_in code payload = cond (code == 0) (information (plain payload)) (command_in payload)

abbrev pub request_of : Frame → Request
request_of f = record { channel = f.channel; reset = f.reset; toggle = f.toggle; load = load_in f.code f.payload }

-- answers as frames, and back
abbrev pub reply_code : Reply → ℕ
reply_code success = 0
reply_code (message t) = 1
reply_code (failure t) = 2
reply_code (block b) = 7
reply_code (other code p) = code

abbrev pub reply_payload : Reply → List ℕ
reply_payload success = []
reply_payload (message t) = t
reply_payload (failure t) = t
reply_payload (block b) = b.bytes
reply_payload (other code p) = p

abbrev pub answer_frame : Answer → Frame
answer_frame a = record { channel = a.channel; code = reply_code a.reply; reset = a.reset; toggle = a.toggle; payload = reply_payload a.reply }

abbrev pub reply_in : ℕ → List ℕ → Reply
reply_in code payload =
    cond (code == 0) success
    (cond (code == 1) (message payload)
    (cond (code == 2) (failure payload)
    (cond (code == 7) (block (plain payload)) (other code payload))))

abbrev pub answer_of : Frame → Answer
answer_of f = record { channel = f.channel; reset = f.reset; toggle = f.toggle; reply = reply_in f.code f.payload }

-- the bodies that are written of them; no end writes a reply of another code
abbrev pub request_body : Request → List ℕ
request_body q = body_of form.Counted (request_frame q)

abbrev pub reply_body : Reply → Frame → List ℕ
reply_body success f = body_of form.Bare f
reply_body (message t) f = body_of form.Text f
reply_body (failure t) f = body_of form.Text f
reply_body (block b) f = body_of form.Counted f
reply_body (other code p) f = body_of form.Counted f

abbrev pub answer_body : Answer → List ℕ
answer_body a = reply_body a.reply (answer_frame a)

-- the payload that the bytes after a code byte carry, by their form, and the frame that a body is read as
abbrev pub uncarried : Form → List ℕ → List ℕ
uncarried form.Bare rest = []
uncarried form.Text rest = take (length rest - 1) rest
uncarried form.Counted rest = drop 1 rest

abbrev pub payload_by : Option Form → List ℕ → List ℕ
payload_by None rest = []
payload_by (Some m) rest = uncarried m rest

abbrev pub frame_read : Direction → List ℕ → Frame
frame_read d body = frame_in body (payload_by (form_of d (code_in (slice_index body 1))) (drop 2 body))

abbrev pub request_read : List ℕ → Request
request_read body = request_of (frame_read FromHost body)

abbrev pub answer_read : List ℕ → Answer
answer_read body = answer_of (frame_read FromTnc body)

-- the block that a frame carries, if any
pub data Cargo : Type 0 where
  empty : Cargo
  holds : Block → Cargo

abbrev pub cargo_of : Load → Cargo
cargo_of poll = empty
cargo_of (information b) = holds b
cargo_of (command p) = empty

abbrev pub cargo_in : Reply → Cargo
cargo_in success = empty
cargo_in (message t) = empty
cargo_in (failure t) = empty
cargo_in (block b) = holds b
cargo_in (other code p) = empty

-- a good list, as a test: each value 1 to 64, and none twice
abbrev pub member : ℕ → List ℕ → Bool
member v [] = false
member v (x ∷ xs) = cond (v == x) true (member v xs)

abbrev pub is_good : List ℕ → Bool
is_good [] = true
is_good (v ∷ xs) = (nat_le 1 v && nat_le v channels) && (not (member v xs) && is_good xs)

-- the channels that a list names, in its order
abbrev pub listed_channels : List ℕ → List ℕ
listed_channels [] = []
listed_channels (v ∷ xs) = pred v ∷ listed_channels xs

-- at most one frame, which is what a call writes
pub data Written (A : Type 0) : Type 0 where
  nothing : Written A
  one : A → Written A
