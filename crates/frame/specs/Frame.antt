-- Frames and their bodies: what may be sent either way, and which bytes it is.
use Rattle.std.specs.Prelude.{◌≡◌, ℕ, ◌+◌, ◌-◌, ◌/◌, ◌%◌, ◌<◌, ◌≤◌, Bool, cond, ◌⊎◌, ◌↔◌, List, [], ◌∷◌, ◌++◌, length, Some, None, Option, ◌==◌, ◌≢◌, nat_lt, slice_index}
use Rattle.poll.specs.Channel.{last_channel}
use Rattle.frame.specs.declared.form.Direction.{Direction}
use Rattle.frame.specs.declared.form.Direction.TheVariants.{FromHost, FromTnc}
use Rattle.frame.specs.declared.form.Form.{Form}
use Rattle.frame.specs.declared.form.Form.TheVariants.{Bare, Text, Counted}

-- what follows each code: from the host 0 (information) and 1 (command), from the TNC 0, texts 1 to 5, and 6 and 7
abbrev pub form_of : Direction → ℕ → Option Form
form_of FromHost code = cond (nat_lt code 2) (Some Counted) None
form_of FromTnc code = cond (code == 0) (Some Bare) (cond (nat_lt code 6) (Some Text) (cond (nat_lt code 8) (Some Counted) None))

-- a code byte: the code in the six low bits, then the reset flag (64), then the toggle (128)
abbrev pub code_byte_of : ℕ → Bool → Bool → ℕ
code_byte_of code reset toggle = code + cond reset 64 0 + cond toggle 128 0

abbrev pub code_in : ℕ → ℕ
code_in byte = byte % 64

abbrev pub reset_in : ℕ → Bool
reset_in byte = byte / 64 % 2 == 1

abbrev pub toggle_in : ℕ → Bool
toggle_in byte = byte / 128 % 2 == 1

-- the channel byte of the general poll
abbrev pub general : ℕ
general = 255

-- a channel byte: a channel, or the general poll
abbrev pub ChannelByte : ℕ → Type 0
ChannelByte c = (c ≤ last_channel) ⊎ (c ≡ general)

abbrev pub NoZero : List ℕ → Type 0
NoZero p = (k : ℕ) → k < length p → slice_index p k ≢ 0

-- the longest text, without its 00, the longest block, and the longest body
abbrev pub longest_text : ℕ
longest_text = 255

abbrev pub longest_block : ℕ
longest_block = 256

abbrev pub longest_body : ℕ
longest_body = longest_block + 3

-- the payloads that a form can carry
abbrev pub Carries : Form → List ℕ → Type 0
Carries Bare p = length p ≡ 0
Carries Text p = (length p ≤ longest_text) × NoZero p
Carries Counted p = (1 ≤ length p) × (length p ≤ longest_block)

-- the bytes after the code byte
abbrev pub carried : Form → List ℕ → List ℕ
carried Bare p = []
carried Text p = p ++ 0 ∷ []
carried Counted p = (length p - 1) ∷ p

-- a frame of either direction
pub record Frame : Type 0 where
  pub channel : ℕ
  pub code : ℕ
  pub reset : Bool
  pub toggle : Bool
  pub payload : List ℕ

-- its body, where what follows its code byte has that form
abbrev pub body_of : Form → Frame → List ℕ
body_of m f = f.channel ∷ code_byte_of f.code f.reset f.toggle ∷ carried m f.payload

-- the frame may be sent in that direction, in that form
pub record Sendable (d : Direction) (m : Form) (f : Frame) : Type 0 where
  pub known : form_of d f.code ≡ Some m
  pub address : ChannelByte f.channel
  pub carries : Carries m f.payload

-- the bytes are the body of that frame, and the frame may be sent
pub record Body (d : Direction) (bytes : List ℕ) (f : Frame) : Type 0 where
  pub form : Form
  pub sendable : Sendable d form f
  pub bytes_are : bytes ≡ body_of form f

-- the frame that a body's first bytes and a payload make
abbrev pub frame_in : List ℕ → List ℕ → Frame
frame_in body payload = record {
  channel = slice_index body 0;
  code = code_in (slice_index body 1);
  reset = reset_in (slice_index body 1);
  toggle = toggle_in (slice_index body 1);
  payload = payload;
}

-- a body that was read: as a frame exactly if it is that frame's body, and so as none if it is that of no frame
abbrev pub IsReadAs : Direction → List ℕ → Option Frame → Type 0
IsReadAs d body o = (f : Frame) → Body d body f ↔ (o ≡ Some f)
