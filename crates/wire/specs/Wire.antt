-- The wire form of a body, and what the writer answers and leaves.
use Rattle.std.specs.Prelude.{◌≡◌, ℕ, ◌<◌, ◌≤◌, cond, List, [], ◌∷◌, ◌++◌, length, drop, Ok, Err, Result, ◌==◌}
use Rattle.std.proofs.Math.Seq.{paste}
use Rattle.std.specs.List.{flat_map}
use Rattle.fcs.specs.Fcs.{check_of}
use Rattle.frame.specs.declared.form.Direction.{Direction}
use Rattle.frame.specs.declared.form.Form.{Form}
use Rattle.wire.specs.declared.writer.Refusal.{Refusal}
use Rattle.wire.specs.declared.writer.Refusal.TheVariants.{ShortWire, BadPayload}
use Rattle.frame.specs.Frame.{Frame, Carries, body_of, Body}

-- AA: two of them start a frame
abbrev pub mark : ℕ
mark = 170

-- the longest wire form, and the shortest buffer to write one to
abbrev pub longest_wire : ℕ
longest_wire = 521

-- a byte on the wire: 00 follows AA
abbrev pub stuff : ℕ → List ℕ
stuff b = cond (b == mark) (b ∷ 0 ∷ []) (b ∷ [])

unfoldable pub stuffed : List ℕ → List ℕ
stuffed bytes = flat_map stuff bytes

-- the wire form: AA AA, then body and checksum, stuffed
unfoldable pub wire_of : List ℕ → List ℕ
wire_of body = mark ∷ mark ∷ stuffed (body ++ check_of body)

-- a buffer with the bytes written over it from a place on
unfoldable pub over : List ℕ → ℕ → List ℕ → List ℕ
over buffer at bytes = paste buffer at bytes (length bytes)

-- the number of each refusal
abbrev pub refusal_number : Refusal → ℕ
refusal_number ShortWire = 14
refusal_number BadPayload = 11

-- the wire form of a frame from the start of the buffer on, the rest as before
pub record Written (d : Direction) (f : Frame) (before after : List ℕ) (n : ℕ) : Type 0 where
  pub wide : longest_wire ≤ length before
  pub body : List ℕ
  pub is_body : Body d body f
  pub length_is : n ≡ length (wire_of body)
  pub short : n ≤ longest_wire
  pub buffer : after ≡ wire_of body ++ drop n before

-- what the writer answers of a frame, and what it leaves
abbrev pub Writes : Direction → Frame → List ℕ → List ℕ → Result ℕ Refusal → Type 0
Writes d f before after (Ok n) = Written d f before after n
Writes d f before after (Err ShortWire) = (length before < longest_wire) × (after ≡ before)
Writes d f before after (Err BadPayload) = (longest_wire ≤ length before) × ((body : List ℕ) → Body d body f → ⊥) × (after ≡ before)

-- No wire form of a frame is longer than `longest_wire`.
abbrev pub WireIsShort : Type 0
WireIsShort = (d : Direction) (body : List ℕ) (f : Frame) → Body d body f → length (wire_of body) ≤ longest_wire

-- what `Writes` says, where the form is at hand and code and address are known to be good
abbrev pub Lays : Form → Frame → List ℕ → List ℕ → Result ℕ Refusal → Type 0
Lays m f before after (Ok n) =
    (longest_wire ≤ length before) × Carries m f.payload × (n ≡ length (wire_of (body_of m f))) × (n ≤ longest_wire) × (after ≡ wire_of (body_of m f) ++ drop n before)
Lays m f before after (Err ShortWire) = (length before < longest_wire) × (after ≡ before)
Lays m f before after (Err BadPayload) = (longest_wire ≤ length before) × (Carries m f.payload → ⊥) × (after ≡ before)
