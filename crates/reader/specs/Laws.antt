-- What a reader makes of whole runs of bytes: the round trip, one wire form for each frame, and the counts of faults.
use Rattle.std.specs.Prelude.{◌≡◌, ℕ, ◌+◌, ◌<◌, List, [], ◌∷◌, ◌++◌, length, take, Some, Ok, Err, Result, ◌≢◌, slice_index, slice_index_or}
use Rattle.frame.specs.declared.form.Direction.{Direction}
use Rattle.frame.specs.Frame.{Frame, Body}
use Rattle.wire.specs.Wire.{mark, wire_of, Writes}
use Rattle.reader.specs.declared.fault.Fault.{Fault}
use Rattle.reader.specs.declared.fault.Reason.TheVariants.{NewFrame}
use Rattle.reader.specs.declared.state.State.{State}
use Rattle.reader.specs.declared.state.State.TheVariants.{Waiting, Marked, Started, Inside, Escaped, Passed}
use Rattle.reader.specs.declared.state.Heard.{Heard}
use Rattle.reader.specs.declared.state.Heard.TheVariants as heard
use Rattle.reader.specs.Read.{Meaning, at, fresh, passed, fault_of, hears}

-- what a byte brings to the one above: a body, a fault, or nothing
abbrev pub Event : Type 0
Event = Result (List ℕ) Fault

abbrev pub events_of : Result Heard Fault → List ℕ → List Event
events_of (Ok heard.More) body = []
events_of (Ok heard.Frame) body = Ok body ∷ []
events_of (Err fault) body = Err fault ∷ []

-- the reader after a run of bytes, and the events that the run brought
abbrev pub after : Meaning → List ℕ → Meaning
after m [] = m
after m (b ∷ bs) = after (hears m b).then bs

abbrev pub events : Meaning → List ℕ → List Event
events m [] = []
events m (b ∷ bs) = events_of (hears m b).says (hears m b).then.bytes ++ events (hears m b).then bs

-- what the start of a new frame brings: one fault 6 where a frame was under way, and nothing elsewhere
abbrev pub cut_at : State → ℕ → List Event
cut_at Waiting n = []
cut_at Marked n = []
cut_at Started n = []
cut_at (Inside p) n = Err (fault_of NewFrame (n + 1 + 1)) ∷ []
cut_at (Escaped p) n = Err (fault_of NewFrame (n + 1)) ∷ []
cut_at Passed n = []

abbrev pub cut : Meaning → List Event
cut m = cut_at m.state m.raw

-- From any reader, after any bytes, the wire form of a frame of its direction passes exactly that body, once, with its last byte.
abbrev pub RoundTrip : Type 0
RoundTrip = (m : Meaning) (before body : List ℕ) (f : Frame) → Body m.direction body f
    → (events m (before ++ wire_of body) ≡ events m before ++ cut (after m before) ++ Ok body ∷ [])
    × (after m (before ++ wire_of body) ≡ at m.direction Passed body 0)

-- So whatever the writer wrote passes: the bytes of its buffer, as many as it answered, are heard as the body of that frame.
abbrev pub WrittenPasses : Type 0
WrittenPasses = (m : Meaning) (earlier : List ℕ) (f : Frame) (before buffer : List ℕ) (n : ℕ) → Writes m.direction f before buffer (Ok n)
    → (body : List ℕ) × Body m.direction body f
    × (events m (earlier ++ take n buffer) ≡ events m earlier ++ cut (after m earlier) ++ Ok body ∷ [])
    × (after m (earlier ++ take n buffer) ≡ at m.direction Passed body 0)

-- each value is a byte, below 256
abbrev pub Bytes : List ℕ → Type 0
Bytes xs = (k : ℕ) → k < length xs → slice_index xs k < 256

-- A body passes only at the end of exactly its wire form, and is that of a frame of the direction.
abbrev pub OneWireForm : Direction → Type 0
OneWireForm d = (bytes body : List ℕ) → Bytes bytes → passed (after (fresh d) bytes) ≡ Some body
    → (front : List ℕ) × (f : Frame) × (bytes ≡ front ++ wire_of body) × Body d body f

-- raw bytes from a channel byte on: the first is no AA, and there is no AA AA before the last byte
pub record FromChannel (raw : List ℕ) : Type 0 where
  pub some : 0 < length raw
  pub first : slice_index_or raw 0 0 ≡ mark → ⊥
  pub no_start : (k : ℕ) → k + 2 < length raw → slice_index raw k ≡ mark → slice_index raw (k + 1) ≢ mark

-- The count of a fault is the number of raw bytes from the channel byte, the first after AA AA, to the faulty one.
abbrev pub CountsRaw : Direction → Type 0
CountsRaw d = (bytes : List ℕ) (b : ℕ) (fault : Fault) → Bytes (bytes ++ b ∷ []) → (hears (after (fresh d) bytes) b).says ≡ Err fault
    → (front raw : List ℕ) × (bytes ++ b ∷ [] ≡ front ++ mark ∷ mark ∷ raw) × (length raw ≡ fault.count) × FromChannel raw
