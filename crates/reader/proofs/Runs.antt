-- Runs of bytes, one after the other; a reader keeps its direction.
use Rattle.std.proofs.Common.{◌≡◌, ℕ, List, [], ◌∷◌, ◌++◌, Some, None, Option, sym, refl, ap, ◌∙◌, append_assoc, arith}
use Rattle.frame.specs.declared.form.Direction.{Direction}
use Rattle.frame.specs.declared.form.Form.{Form}
use Rattle.frame.specs.Frame.{form_of, code_in}
use Rattle.reader.specs.declared.state.Part.{Part}
use Rattle.reader.specs.declared.state.Part.TheVariants.{Code, Count, Block, Text, Low, High}
use Rattle.reader.specs.declared.state.State.{State}
use Rattle.reader.specs.declared.state.State.TheVariants.{Waiting, Marked, Started, Inside, Escaped, Passed}
use Rattle.reader.specs.Read.{Meaning, Next, with_code, with_byte, hears_at, hears}
use Rattle.reader.specs.Laws.{Event, events_of, after, events}

pub events_append : (m : Meaning) (xs ys : List ℕ) → events m (xs ++ ys) ≡ events m xs ++ events (after m xs) ys
events_append m [] ys = refl
events_append m (x ∷ xs) ys =
    ap (λ (l : List Event). events_of (hears m x).says (hears m x).then.bytes ++ l) (events_append (hears m x).then xs ys)
    ∙ sym (append_assoc (events_of (hears m x).says (hears m x).then.bytes) (events (hears m x).then xs) (events (after m (x ∷ xs)) ys))

pub after_append : (m : Meaning) (xs ys : List ℕ) → after m (xs ++ ys) ≡ after (after m xs) ys
after_append m [] ys = refl
after_append m (x ∷ xs) ys = after_append (hears m x).then xs ys

abbrev Keeps : Direction → Next → Type 0
Keeps d x = x.then.direction ≡ d

code_keeps : (d : Direction) (o : Option Form) (bs : List ℕ) (n : ℕ) → Keeps d (with_code d o bs n)
code_keeps d None bs n = refl
code_keeps d (Some m) bs n = refl

byte_keeps : (d : Direction) (p : Part) (bs : List ℕ) (n b : ℕ) → Keeps d (with_byte d p bs n b)
byte_keeps d Code bs n b = code_keeps d (form_of d (code_in b)) (bs ++ b ∷ []) n
byte_keeps d Count bs n b = refl
byte_keeps d (Block k) bs n b = refl
byte_keeps d Text bs n b = grind arith
byte_keeps d Low bs n b = refl
byte_keeps d (High low) bs n b = grind arith

step_keeps : (d : Direction) (s : State) (bs : List ℕ) (n b : ℕ) → Keeps d (hears_at d s bs n b)
step_keeps d Waiting bs n b = grind arith
step_keeps d Passed bs n b = grind arith
step_keeps d Marked bs n b = grind arith
step_keeps d Started bs n b = grind arith
step_keeps d (Inside p) bs n b = grind (arith, byte_keeps)
step_keeps d (Escaped p) bs n b = grind (arith, byte_keeps)

pub direction_kept : (m : Meaning) (bytes : List ℕ) → (after m bytes).direction ≡ m.direction
direction_kept m [] = refl
direction_kept m (b ∷ bytes) = direction_kept (hears m b).then bytes ∙ step_keeps m.direction m.state m.bytes m.raw b
