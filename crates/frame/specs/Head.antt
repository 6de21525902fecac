-- The head of a frame, and the two bytes that it is read from.
use Rattle.std.specs.Prelude.{◌≡◌, ℕ}
use Rattle.frame.specs.declared.head.Address.{Address}
use Rattle.frame.specs.declared.head.Address.TheVariants.{Channel, General}
use Rattle.frame.specs.declared.head.Head.{Head}
use Rattle.frame.specs.Frame.{Frame, general, ChannelByte, reset_in, toggle_in}
use Rattle.frame.specs.Kinds.{Shown}

-- the channel byte of an address
abbrev pub byte_of : Address → ℕ
byte_of (Channel c) = c.number
byte_of General = general

-- the head that a channel byte and a code byte make
pub record IsHeadOf (channel code : ℕ) (h : Head) : Type 0 where
  pub channel_byte : ChannelByte channel
  pub address : byte_of h.address ≡ channel
  pub reset : h.reset ≡ reset_in code
  pub toggle : h.toggle ≡ toggle_in code

-- the frame of this head that shows this code and payload
abbrev pub framed : Head → Shown → Frame
framed h s = record { channel = byte_of h.address; code = s.code; reset = h.reset; toggle = h.toggle; payload = s.payload }
