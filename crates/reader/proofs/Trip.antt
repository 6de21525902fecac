-- The round trip: two AA start a frame from any state, and each part of its body is heard in turn, up to a good checksum.
use Rattle.std.proofs.Common.{◌≡◌, ℕ, suc, ◌+◌, ◌-◌, ◌≤◌, Bool, true, false, cond, eqb, ltb, List, [], ◌∷◌, ◌++◌, length, get_or, take, drop, Some, Ok, Option, sym, refl, ap, ◌∙◌, subst, ⊎_elim, append_assoc, arith, length-append}
use Rattle.std.proofs.lemmas.List.{take_at}
use Rattle.std.proofs.lemmas.Bool.{cases_Bool, eqb-true, eq-eqb, ne_eqb, lt-ltb, le-ltb}
use Rattle.std.proofs.lemmas.Bool.Decides.{nat_tests}
use Rattle.fcs.specs.Fcs.{extended, register_of, residue, check_of}
use Rattle.fcs.proofs.Residue.{leaves_residue}
use Rattle.frame.specs.declared.form.Direction.{Direction}
use Rattle.frame.specs.declared.form.Form.{Form}
use Rattle.frame.specs.declared.form.Form.TheVariants as form
use Rattle.frame.specs.Frame.{form_of, code_byte_of, code_in, ChannelByte, NoZero, Carries, carried, Frame, body_of}
use Rattle.wire.specs.Wire.{stuff, stuffed, wire_of}
use Rattle.frame.proofs.Bits.{code_in_byte}
use Rattle.frame.proofs.Bodies.{known_code}
use Rattle.reader.specs.declared.state.Part.{Part}
use Rattle.reader.specs.declared.state.Part.TheVariants.{Code, Count, Block, Text, Low, High}
use Rattle.reader.specs.declared.state.State.TheVariants.{Waiting, Marked, Started, Inside, Escaped, Passed}
use Rattle.reader.specs.State.{part_of}
use Rattle.reader.specs.Read.{Meaning, Next, at, inside, is_channel, with_channel, with_code, with_byte}
use Rattle.reader.specs.Laws.{Event, events_of, after, events, cut, RoundTrip, WrittenPasses}
use Rattle.reader.proofs.Runs.{events_append, after_append, direction_kept}

-- two AA start a frame
marks : (m : Meaning) (rest : List ℕ)
    → (events m (170 ∷ 170 ∷ rest) ≡ cut m ++ events (at m.direction Started [] 0) rest) × (after m (170 ∷ 170 ∷ rest) ≡ after (at m.direction Started [] 0) rest)
marks m rest =
    elim m.state as (λ s.
    (events (at m.direction s m.bytes m.raw) (170 ∷ 170 ∷ rest) ≡ cut (at m.direction s m.bytes m.raw) ++ events (at m.direction Started [] 0) rest)
    × (after (at m.direction s m.bytes m.raw) (170 ∷ 170 ∷ rest) ≡ after (at m.direction Started [] 0) rest))
    [ Waiting ↦ (refl, refl) | Marked ↦ (refl, refl) | Started ↦ (refl, refl) | Inside p ↦ (refl, refl) | Escaped p ↦ (refl, refl) | Passed ↦ (refl, refl) ]

-- the bytes pass that body, with the last of them
abbrev Ends : Direction → List ℕ → Meaning → List ℕ → Type 0
Ends d body m bytes = (events m bytes ≡ Ok body ∷ []) × (after m bytes ≡ at d Passed body 0)

abbrev EndsNext : Direction → List ℕ → Next → List ℕ → Type 0
EndsNext d body x rest = (events_of x.says x.then.bytes ++ events x.then rest ≡ Ok body ∷ []) × (after x.then rest ≡ at d Passed body 0)

-- a test that came out true or false
when_true : (d : Direction) (body : List ℕ) (t : Bool) (x y : Next) (rest : List ℕ) → t ≡ true → EndsNext d body x rest → EndsNext d body (cond t x y) rest
when_true d body t x y rest e h = subst (λ (u : Bool). EndsNext d body (cond u x y) rest) (sym e) h

when_false : (d : Direction) (body : List ℕ) (t : Bool) (x y : Next) (rest : List ℕ) → t ≡ false → EndsNext d body y rest → EndsNext d body (cond t x y) rest
when_false d body t x y rest e h = subst (λ (u : Bool). EndsNext d body (cond u x y) rest) (sym e) h

-- a byte of a frame enters in its wire form
enters : (d : Direction) (body : List ℕ) (p : Part) (bs : List ℕ) (n x : ℕ) (rest : List ℕ)
    → ((k : ℕ) → EndsNext d body (with_byte d p bs k x) rest) → Ends d body (at d (Inside p) bs n) (stuff x ++ rest)
enters d body p bs n x rest h =
    ⊎_elim
    (λ t. subst (λ (y : ℕ). ((k : ℕ) → EndsNext d body (with_byte d p bs k y) rest) → Ends d body (at d (Inside p) bs n) (stuff y ++ rest))
    (sym (eqb-true x 170 t)) (λ g. g (n + 1 + 1)) h)
    (λ f. subst (λ (u : Bool). Ends d body (at d (Inside p) bs n) (cond u (x ∷ 0 ∷ []) (x ∷ []) ++ rest)) (sym f)
    (when_false d body (eqb x 170) _ (with_byte d p bs (n + 1) x) rest f (h (n + 1))))
    (cases_Bool (eqb x 170))

-- the checksum
closes : (d : Direction) (bs : List ℕ) (n : ℕ) → Ends d bs (at d (Inside Low) bs n) (stuffed (check_of bs))
unfolding stuffed
closes d bs n =
    enters d bs Low bs n (get_or (check_of bs) 0 0) (stuffed (get_or (check_of bs) 1 0 ∷ []))
    (λ k. enters d bs (High (get_or (check_of bs) 0 0)) bs k (get_or (check_of bs) 1 0) []
    (λ j. when_true d bs (eqb (extended (register_of bs) (check_of bs)) residue) _ _ []
    (eq-eqb (extended (register_of bs) (check_of bs)) residue (leaves_residue (register_of bs))) (refl, refl)))

closes_as : (d : Direction) (body bs : List ℕ) (n : ℕ) → bs ≡ body → Ends d body (at d (Inside Low) bs n) (stuffed (check_of body))
closes_as d body bs n e = subst (λ (b : List ℕ). Ends d b (at d (Inside Low) bs n) (stuffed (check_of b))) e (closes d bs n)

-- a block
blocks : (d : Direction) (body block bs : List ℕ) (k n : ℕ) → length block ≡ k → 1 ≤ k → bs ++ block ≡ body
    → Ends d body (at d (Inside (Block k)) bs n) (stuffed (block ++ check_of body))
unfolding stuffed
blocks d body [] bs k n l some e = absurd (omega arith)
blocks d body (x ∷ []) bs k n l some e =
    enters d body (Block k) bs n x (stuffed (check_of body))
    (λ j. subst (λ (t : Bool). EndsNext d body (inside d (cond t (Block (k - 1)) Low) (bs ++ x ∷ []) j) (stuffed (check_of body)))
    (sym (le-ltb 1 k (omega arith))) (closes_as d body (bs ++ x ∷ []) j e))
blocks d body (x ∷ y ∷ block) bs k n l some e =
    enters d body (Block k) bs n x (stuffed (y ∷ (block ++ check_of body)))
    (λ j. subst (λ (t : Bool). EndsNext d body (inside d (cond t (Block (k - 1)) Low) (bs ++ x ∷ []) j) (stuffed (y ∷ (block ++ check_of body))))
    (sym (lt-ltb 1 k (omega arith)))
    (blocks d body (y ∷ block) (bs ++ x ∷ []) (k - 1) j (omega arith) (omega arith) (append_assoc bs (x ∷ []) (y ∷ block) ∙ e)))

-- a text and its 00
texts : (d : Direction) (body text bs : List ℕ) (n : ℕ) → NoZero text → length bs + length text ≤ 257 → bs ++ (text ++ 0 ∷ []) ≡ body
    → Ends d body (at d (Inside Text) bs n) (stuffed ((text ++ 0 ∷ []) ++ check_of body))
unfolding stuffed
texts d body [] bs n nz short e =
    enters d body Text bs n 0 (stuffed (check_of body)) (λ j. closes_as d body (bs ++ 0 ∷ []) j e)
texts d body (x ∷ text) bs n nz short e =
    let rest = stuffed ((text ++ 0 ∷ []) ++ check_of body) in
    enters d body Text bs n x rest
    (λ j. when_false d body (eqb x 0) _ _ rest (ne_eqb x 0 (nz 0 (omega arith)))
    (when_true d body (ltb (length bs) 257) _ _ rest (lt-ltb (length bs) 257 (omega arith))
    (texts d body text (bs ++ x ∷ []) j (λ k h. nz (suc k) (omega arith))
    (omega (arith, length-append bs (x ∷ []))) (append_assoc bs (x ∷ []) (text ++ 0 ∷ []) ∙ e))))

-- what follows a code byte, by its form
follows : (d : Direction) (m : Form) (a c : ℕ) (p : List ℕ) (n : ℕ) → Carries m p
    → Ends d (a ∷ c ∷ carried m p) (at d (Inside (part_of m)) (a ∷ c ∷ []) n) (stuffed (carried m p ++ check_of (a ∷ c ∷ carried m p)))
unfolding stuffed
follows d form.Bare a c p n h = closes d (a ∷ c ∷ []) n
follows d form.Text a c p n h = texts d (a ∷ c ∷ (p ++ 0 ∷ [])) p (a ∷ c ∷ []) n h.1 (omega (arith, h.0)) refl
follows d form.Counted a c p n h =
    let body : List ℕ = a ∷ c ∷ (length p - 1) ∷ p in
    enters d body Count (a ∷ c ∷ []) n (length p - 1) (stuffed (p ++ check_of body))
    (λ j. blocks d body p (a ∷ c ∷ (length p - 1) ∷ []) (length p - 1 + 1) j (omega (arith, h.0)) (omega arith) refl)

channel_test : (c : ℕ) → ChannelByte c → is_channel c ≡ true
channel_test c h = ⊎_elim (λ low. grind (arith, nat_tests)) (λ high. grind (arith, nat_tests)) h

-- a whole frame after its AA AA
from_start : (d : Direction) (m : Form) (f : Frame) → form_of d f.code ≡ Some m → ChannelByte f.channel → Carries m f.payload
    → Ends d (body_of m f) (at d Started [] 0) (stuffed (body_of m f ++ check_of (body_of m f)))
unfolding stuffed
from_start d m f known address h =
    let c = code_byte_of f.code f.reset f.toggle in
    let body = body_of m f in
    let rest = stuffed (carried m f.payload ++ check_of body) in
    let more = stuff c ++ rest in
    let plain : eqb f.channel 170 ≡ false = ne_eqb f.channel 170 (λ q. ⊎_elim (λ low. omega arith) (λ high. omega arith) address) in
    let code : form_of d (code_in c) ≡ Some m = ap (form_of d) (code_in_byte f.code f.reset f.toggle (omega (arith, known_code d f.code m known))) ∙ known in
    let inner = enters d body Code (f.channel ∷ []) 1 c rest
    (λ k. subst (λ (o : Option Form). EndsNext d body (with_code d o (f.channel ∷ c ∷ []) k) rest) (sym code) (follows d m f.channel c f.payload k h)) in
    let started = when_false d body (eqb f.channel 170) _ (with_channel d f.channel) more plain
    (when_true d body (is_channel f.channel) _ _ more (channel_test f.channel address) inner) in
    subst (λ (u : Bool). Ends d body (at d Started [] 0) (cond u (f.channel ∷ 0 ∷ []) (f.channel ∷ []) ++ more)) (sym plain) started

pub round_trip : RoundTrip
unfolding wire_of
round_trip m before body f b =
    let q = after m before in
    let e = direction_kept m before in
    let d = q.direction in
    let whole = stuffed (body ++ check_of body) in
    let known : form_of d f.code ≡ Some b.form = ap (λ (x : Direction). form_of x f.code) e ∙ b.sendable.known in
    let k : Ends d body (at d Started [] 0) whole =
    subst (λ (x : List ℕ). Ends d x (at d Started [] 0) (stuffed (x ++ check_of x))) (sym b.bytes_are)
    (from_start d b.form f known b.sendable.address b.sendable.carries) in
    let start = marks q whole in (
      events_append m before (wire_of body)
          ∙ ap (λ (l : List Event). events m before ++ l) (start.0 ∙ ap (λ (l : List Event). cut q ++ l) k.0)
          ∙ sym (append_assoc (events m before) (cut q) (Ok body ∷ [])),
      after_append m before (wire_of body) ∙ start.1 ∙ k.1 ∙ ap (λ (x : Direction). at x Passed body 0) e,
    )

pub written_passes : WrittenPasses
written_passes m earlier f before buffer n w =
    let t = round_trip m earlier w.body f w.is_body in
    let e : take n buffer ≡ wire_of w.body = ap (take n) w.buffer ∙ take_at (wire_of w.body) (drop n before) n (sym w.length_is) in (
      w.body,
      w.is_body,
      ap (λ (l : List ℕ). events m (earlier ++ l)) e ∙ t.0,
      ap (λ (l : List ℕ). after m (earlier ++ l)) e ∙ t.1,
    )
