-- The request that a frame of the host is, by what it asks.
use Rattle.std.specs.Prelude.{ℕ, Bool}
use Rattle.frame.specs.Frame.{general}
use Rattle.frame.specs.Kinds.{Shown, shows}
use Rattle.store.specs.Meaning.{Block}
use Rattle.ends.specs.Frames.{Load, Request, poll, information, load_code, load_payload}
use Rattle.ends.specs.Kept.{block_of}
use Rattle.host.specs.declared.asked.Asked.{Asked}
use Rattle.host.specs.declared.asked.Asked.TheVariants as asked

abbrev pub block_request : ℕ → Bool → Bool → Block → Request
block_request c reset toggle b = record { channel = c; reset = reset; toggle = toggle; load = information b }

-- whom a frame is for, and what it carries
abbrev pub asked_channel : Asked → ℕ
asked_channel asked.GeneralPoll = general
asked_channel (asked.ChannelPoll c) = c.number
asked_channel (asked.Block c k) = c.number

abbrev pub asked_load : Asked → Load
asked_load asked.GeneralPoll = poll
asked_load (asked.ChannelPoll c) = poll
asked_load (asked.Block c k) = information (block_of k)

abbrev pub asked_request : Asked → Bool → Bool → Request
asked_request a reset toggle =
    record { channel = asked_channel a; reset = reset; toggle = toggle; load = asked_load a }

-- a load as a parsed frame shows it
abbrev pub load_shows : Load → Shown
load_shows l = shows (load_code l) (load_payload l)
