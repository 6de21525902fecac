-- One wire form for each frame, and the counts of faults.
use Rattle.std.proofs.Common.{◌≡◌, ℕ, zero, suc, ◌+◌, ◌<◌, ◌≤◌, Bool, true, false, cond, eqb, List, [], ◌∷◌, ◌++◌, length, get_or, Some, None, Err, Option, sym, refl, ap, ◌∙◌, subst, ⊎_elim, append_assoc, arith, length-append}
use Rattle.std.proofs.lemmas.List.{get_or_append_left}
use Rattle.std.proofs.lemmas.Bool.{cases_Bool, cases_lt, eqb-false, ne_eqb}
use Rattle.frame.specs.declared.form.Direction.{Direction}
use Rattle.frame.specs.declared.form.Form.{Form}
use Rattle.frame.specs.Frame.{form_of, code_in, Frame, Body}
use Rattle.wire.specs.Wire.{stuffed, wire_of}
use Rattle.reader.specs.declared.fault.Fault.{Fault}
use Rattle.reader.specs.declared.state.Part.{Part}
use Rattle.reader.specs.declared.state.Part.TheVariants.{Code, Count, Block, Text, Low, High}
use Rattle.reader.specs.declared.state.State.{State}
use Rattle.reader.specs.declared.state.State.TheVariants.{Waiting, Marked, Started, Inside, Escaped, Passed}
use Rattle.reader.specs.Read.{Meaning, fresh, passed_at, goes, with_code, with_byte, hears_at}
use Rattle.reader.specs.Laws.{Bytes, after, OneWireForm, FromChannel, CountsRaw}
use Rattle.reader.proofs.Runs.{direction_kept}
use Rattle.reader.proofs.Tracks.{held, Under, TracksAt, Tracks, run_tracks}

-- the bytes that a fresh reader has heard
tracked : (d : Direction) (bytes : List ℕ) → Bytes bytes → Tracks bytes (after (fresh d) bytes)
tracked d bytes fits = run_tracks [] bytes (fresh d) tt fits

ends : (d : Direction) (heard body : List ℕ) (s : State) (bs : List ℕ) (n : ℕ) → TracksAt d heard s bs n → passed_at s bs ≡ Some body
    → (front : List ℕ) × (f : Frame) × (heard ≡ front ++ wire_of body) × Body d body f
ends d heard body Waiting bs n h e = absurd (cc)
ends d heard body Marked bs n h e = absurd (cc)
ends d heard body Started bs n h e = absurd (cc)
ends d heard body (Inside p) bs n h e = absurd (cc)
ends d heard body (Escaped p) bs n h e = absurd (cc)
ends d heard body Passed bs n h e =
    let same : bs ≡ body = cc in
    (h.0, h.2.0, h.1 ∙ ap (λ (b : List ℕ). h.0 ++ wire_of b) same, subst (λ (b : List ℕ). Body d b h.2.0) same h.2.1)

pub one_wire_form : (d : Direction) → OneWireForm d
one_wire_form d bytes body fits e =
    let m = after (fresh d) bytes in
    let r = ends m.direction bytes body m.state m.bytes m.raw (tracked d bytes fits) e in
    (r.0, r.1, r.2, subst (λ (x : Direction). Body x body r.1) (direction_kept (fresh d) bytes) r.3)

-- Each fault of a byte has that count.
code_faults : (d : Direction) (o : Option Form) (bs : List ℕ) (n : ℕ) (e : Fault) → (with_code d o bs n).says ≡ Err e → e.count ≡ n
code_faults d None bs n e q = grind arith
code_faults d (Some m) bs n e q = absurd (cc)

byte_faults : (d : Direction) (p : Part) (bs : List ℕ) (n b : ℕ) (e : Fault) → (with_byte d p bs n b).says ≡ Err e → e.count ≡ n
byte_faults d Code bs n b e q = code_faults d (form_of d (code_in b)) (bs ++ b ∷ []) n e q
byte_faults d Count bs n b e q = absurd (cc)
byte_faults d (Block k) bs n b e q = absurd (cc)
byte_faults d Text bs n b e q = grind arith
byte_faults d Low bs n b e q = absurd (cc)
byte_faults d (High low) bs n b e q = grind arith

inside_faults : (d : Direction) (p : Part) (bs : List ℕ) (n b : ℕ) (e : Fault) → (hears_at d (Inside p) bs n b).says ≡ Err e → e.count ≡ n + 1
inside_faults d p bs n b e q = grind (arith, byte_faults d p bs (n + 1) b e)

escaped_faults : (d : Direction) (p : Part) (bs : List ℕ) (n b : ℕ) (e : Fault) → (hears_at d (Escaped p) bs n b).says ≡ Err e → e.count ≡ n + 1
escaped_faults d p bs n b e q = grind (arith, byte_faults d p bs (n + 1) 170 e)

-- no fault is said where more is to come
quiet : (t : Bool) (x y : Meaning) (e : Fault) → (cond t (goes x) (goes y)).says ≡ Err e → ⊥
quiet t x y e q = grind arith

-- in stuffed bytes a 00 follows each AA
abbrev Followed : List ℕ → Type 0
Followed s = (k : ℕ) → k < length s → get_or s k 0 ≡ 170 → (suc k < length s) × (get_or s (suc k) 0 ≡ 0)

stuff_followed : (x : ℕ) (s : List ℕ) (t : Bool) → eqb x 170 ≡ t → Followed s → Followed (cond t (x ∷ 0 ∷ []) (x ∷ []) ++ s)
stuff_followed x s true q h zero l e = (omega arith, refl)
stuff_followed x s true q h (suc zero) l e = absurd (omega arith)
stuff_followed x s true q h (suc (suc k)) l e = let r = h k (omega arith) e in (omega arith, r.1)
stuff_followed x s false q h zero l e = absurd (eqb-false x 170 q e)
stuff_followed x s false q h (suc k) l e = let r = h k (omega arith) e in (omega arith, r.1)

followed : (xs : List ℕ) → Followed (stuffed xs)
unfolding stuffed
followed [] = λ k l e. absurd (omega arith)
followed (x ∷ xs) = stuff_followed x (stuffed xs) (eqb x 170) refl (followed xs)

-- the first raw byte is the first byte
first_raw : (xs : List ℕ) → 0 < length xs → (get_or xs 0 0 ≡ 170 → ⊥) → (0 < length (stuffed xs)) × (get_or (stuffed xs) 0 0 ≡ get_or xs 0 0)
unfolding stuffed
first_raw [] some ne = absurd (omega arith)
first_raw (x ∷ xs) some ne =
    subst (λ (t : Bool). (0 < length (cond t (x ∷ 0 ∷ []) (x ∷ []) ++ stuffed xs)) × (get_or (cond t (x ∷ 0 ∷ []) (x ∷ []) ++ stuffed xs) 0 0 ≡ x))
    (sym (ne_eqb x 170 ne)) (omega arith, refl)

-- the raw bytes of a frame under way, with the one that is heard now
from_channel : (xs extra : List ℕ) (y : ℕ) → 0 < length xs → (get_or xs 0 0 ≡ 170 → ⊥) → length extra ≤ 1 → FromChannel (stuffed xs ++ extra ++ y ∷ [])
from_channel xs extra y some ne few =
    let s = stuffed xs in
    let w = s ++ extra in
    let lw = length-append s extra in
    let lr = length-append w (y ∷ []) in
    let f = first_raw xs some ne in
    record {
      some = omega arith;
      first = λ e. ne (sym f.1 ∙ sym (get_or_append_left s extra 0 0 f.0) ∙ sym (get_or_append_left w (y ∷ []) 0 0 (omega (arith, f.0))) ∙ e);
      no_start = λ k l e g.
          let in-w : k + 1 < length w = omega arith in
          ⊎_elim
          (λ less.
          let r = followed xs k less (sym (get_or_append_left s extra 0 k less) ∙ sym (get_or_append_left w (y ∷ []) 0 k (omega arith)) ∙ e) in
          let one : k + 1 ≡ suc k = omega arith in
          let z : get_or (w ++ y ∷ []) (k + 1) 0 ≡ 0 =
          get_or_append_left w (y ∷ []) 0 (k + 1) in-w ∙ ap (λ (i : ℕ). get_or w i 0) one ∙ get_or_append_left s extra 0 (suc k) r.0 ∙ r.1 in
          omega arith)
          (λ more. omega arith)
          (cases_lt k (length s));
    }

abbrev Counted : List ℕ → Fault → Type 0
Counted heard e = (front : List ℕ) × (raw : List ℕ) × (heard ≡ front ++ (170 ∷ 170 ∷ raw)) × (length raw ≡ e.count) × FromChannel raw

under_counted : (d : Direction) (p : Part) (bs : List ℕ) (n : ℕ) (heard extra : List ℕ) (y : ℕ) (e : Fault) → Under d p bs n heard extra → length extra ≤ 1
    → e.count ≡ n + 1 → Counted (heard ++ y ∷ []) e
under_counted d p bs n heard extra y e u few c =
    let xs = bs ++ held p in
    let w = stuffed xs ++ extra in
    let some : 0 < length xs = omega (arith, length-append bs (held p), u.some) in
    let first : get_or xs 0 0 ≡ 170 → ⊥ = λ z. u.first (sym (get_or_append_left bs (held p) 0 0 u.some) ∙ z) in (
      u.front,
      w ++ y ∷ [],
      ap (λ (l : List ℕ). l ++ y ∷ []) u.line ∙ append_assoc u.front (170 ∷ 170 ∷ w) (y ∷ []),
      omega (arith, length-append w (y ∷ []), u.count),
      from_channel xs extra y some first few,
    )

started_counted : (d : Direction) (heard : List ℕ) (b : ℕ) (e : Fault) → TracksAt d heard Started [] 0 → (hears_at d Started [] 0 b).says ≡ Err e → Counted (heard ++ b ∷ []) e
started_counted d heard b e h q =
    ⊎_elim
    (λ t. absurd (grind arith))
    (λ f. (
      h.0,
      b ∷ [],
      ap (λ (l : List ℕ). l ++ b ∷ []) h.1 ∙ append_assoc h.0 (170 ∷ 170 ∷ []) (b ∷ []),
      grind arith,
      record { some = omega arith; first = eqb-false b 170 f; no_start = λ k l x y. omega arith },
    ))
    (cases_Bool (eqb b 170))

counted_at : (d : Direction) (heard : List ℕ) (s : State) (bs : List ℕ) (n b : ℕ) (e : Fault) → TracksAt d heard s bs n → (hears_at d s bs n b).says ≡ Err e → Counted (heard ++ b ∷ []) e
counted_at d heard Waiting bs n b e h q = absurd (quiet (eqb b 170) _ _ e q)
counted_at d heard Marked bs n b e h q = absurd (quiet (eqb b 170) _ _ e q)
counted_at d heard Passed bs n b e h q = absurd (quiet (eqb b 170) _ _ e q)
counted_at d heard Started bs n b e h q = started_counted d heard b e h q
counted_at d heard (Inside p) bs n b e h q = under_counted d p bs n heard [] b e h (omega arith) (inside_faults d p bs n b e q)
counted_at d heard (Escaped p) bs n b e h q = under_counted d p bs n heard (170 ∷ []) b e h (omega arith) (escaped_faults d p bs n b e q)

pub counts_raw : (d : Direction) → CountsRaw d
counts_raw d bytes b e fits q =
    let m = after (fresh d) bytes in
    let l = length-append bytes (b ∷ []) in
    let before : Bytes bytes = λ k less. subst (λ (x : ℕ). x < 256) (get_or_append_left bytes (b ∷ []) 0 k less) (fits k (omega arith)) in
    counted_at m.direction bytes m.state m.bytes m.raw b e (tracked d bytes before) q
