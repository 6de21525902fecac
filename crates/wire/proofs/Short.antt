-- No wire form is longer than 521, and what the writer does with a frame follows.
use Rattle.std.proofs.Common.{◌≡◌, ℕ, ◌-◌, ◌<◌, ◌≤◌, List, [], ◌∷◌, ◌++◌, length, drop, Ok, sym, refl, ap, ◌∙◌, subst, inl, inr, ⊎_elim, arith, length-append}
use Rattle.std.proofs.lemmas.Bool.{cases_lt}
use Rattle.fcs.specs.Fcs.{check_of}
use Rattle.frame.specs.declared.form.Form.{Form}
use Rattle.frame.specs.declared.form.Form.TheVariants.{Bare, Text, Counted}
use Rattle.frame.specs.declared.head.Address.{Address}
use Rattle.frame.specs.declared.head.Address.TheVariants.{Channel, General}
use Rattle.frame.specs.Frame.{code_byte_of, ChannelByte, Carries, carried, Frame, body_of}
use Rattle.frame.specs.Head.{byte_of}
use Rattle.wire.specs.Wire.{stuffed, wire_of, over, WireIsShort, Lays}
use Rattle.frame.proofs.Bits.{code_no_mark}
use Rattle.frame.proofs.Bodies.{known_code}
use Rattle.wire.proofs.Stuffing.{length_wire, length_other, length_most, length_cons, stuffed_double, stuffed_append, stuffed_one, over_start}

pub address_byte : (a : Address) → ChannelByte (byte_of a)
address_byte (Channel c) = inl c.within
address_byte General = inr refl

-- what follows the code byte takes at most 513 bytes of the wire
rest_short : (m : Form) (p : List ℕ) → Carries m p → length (stuffed (carried m p)) ≤ 513
rest_short Bare p h = omega (arith, stuffed_double [])
rest_short Text p h =
    let e = ap length (stuffed_append p (0 ∷ [])) ∙ length-append (stuffed p) (stuffed (0 ∷ [])) in
    let z = ap length (stuffed_one 0) in
    omega (arith, stuffed_double p)
rest_short Counted p h =
    let e = length_cons (length p - 1) p in
    let d = stuffed_double p in
    ⊎_elim
    (λ less. omega (arith, length_most (length p - 1)))
    (λ full. omega (arith, length_other (length p - 1) (λ q. omega arith)))
    (cases_lt (length p) 256)

pub frame_short : (m : Form) (f : Frame) → f.code < 8 → ChannelByte f.channel → Carries m f.payload → length (wire_of (body_of m f)) ≤ 521
frame_short m f known address h =
    let body = body_of m f in
    let code = code_byte_of f.code f.reset f.toggle in
    let w = length_wire body in
    let c = stuffed_double (check_of body) in
    let r = rest_short m f.payload h in
    let a = length_cons f.channel (code ∷ carried m f.payload) in
    let b = length_cons code (carried m f.payload) in
    let first = length_other f.channel (λ q. ⊎_elim (λ low. omega arith) (λ high. omega arith) address) in
    let second = length_other code (code_no_mark f.code f.reset f.toggle known) in
    omega arith

pub short_wire : WireIsShort
short_wire d body f b =
    subst (λ (x : List ℕ). length (wire_of x) ≤ 521) (sym b.bytes_are)
    (frame_short b.form f (known_code d f.code b.form b.sendable.known) b.sendable.address b.sendable.carries)

-- a body that fits, and what its writing leaves
pub room : (m : Form) (f : Frame) (body wire : List ℕ) → f.code < 8 → ChannelByte f.channel → Carries m f.payload → 521 ≤ length wire
    → body ≡ body_of m f → length (wire_of body) ≤ length wire
room m f body wire known address h wide e =
    let s = frame_short m f known address h in
    let l = ap (λ (x : List ℕ). length (wire_of x)) e in
    omega arith

pub laid : (m : Form) (f : Frame) (body before after : List ℕ) (n : ℕ) → f.code < 8 → ChannelByte f.channel → Carries m f.payload → 521 ≤ length before
    → body ≡ body_of m f → n ≡ length (wire_of body) → after ≡ over before 0 (wire_of body) → Lays m f before after (Ok n)
laid m f body before after n known address h wide e long w =
    let s = frame_short m f known address h in
    let l : n ≡ length (wire_of (body_of m f)) = long ∙ ap (λ (x : List ℕ). length (wire_of x)) e in (
      wide,
      h,
      l,
      omega arith,
      w ∙ over_start before (wire_of body) ∙ ap (λ (x : List ℕ). wire_of x ++ drop (length (wire_of x)) before) e
          ∙ ap (λ (k : ℕ). wire_of (body_of m f) ++ drop k before) (sym l),
    )
