-- The answer that is held.
use Rattle.std.specs.Prelude.{ℕ, Bool}
use Rattle.poll.specs.List.{text_of}
use Rattle.frame.specs.Frame.{general}
use Rattle.frame.specs.Head.{byte_of}
use Rattle.frame.specs.Kinds.{Shown, shows}
use Rattle.ends.specs.Frames.{Reply, success, message, failure, block, Answer, reply_code, reply_payload}
use Rattle.ends.specs.Kept.{block_of}
use Rattle.ends.specs.Tnc.{no_place, no_channel, unknown}
use Rattle.tnc.specs.declared.held.Given.{Given}
use Rattle.tnc.specs.declared.held.Given.TheVariants as given
use Rattle.tnc.specs.declared.held.Held.{Held}

-- whom an answer is for, and what it carries
abbrev pub given_channel : Given → ℕ
given_channel (given.Success c) = c.number
given_channel (given.NoPlace c) = c.number
given_channel given.NoChannel = general
given_channel (given.Unknown a) = byte_of a
given_channel (given.List l) = general
given_channel (given.Block c k) = c.number

abbrev pub given_reply : Given → Reply
given_reply (given.Success c) = success
given_reply (given.NoPlace c) = failure no_place
given_reply given.NoChannel = failure no_channel
given_reply (given.Unknown a) = failure unknown
given_reply (given.List l) = message (text_of l.text)
given_reply (given.Block c k) = block (block_of k)

abbrev pub given_answer : Given → Bool → Bool → Answer
given_answer g reset toggle = record { channel = given_channel g; reset = reset; toggle = toggle; reply = given_reply g }

abbrev pub held_answer : Held → Answer
held_answer h = given_answer h.given h.reset h.toggle

-- a reply as a parsed frame shows it
abbrev pub reply_shows : Reply → Shown
reply_shows r = shows (reply_code r) (reply_payload r)
