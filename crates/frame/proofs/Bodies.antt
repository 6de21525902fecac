-- Bodies and frames: a body is that of one frame at most, and its payload makes that frame.
use Rattle.std.proofs.Common.{◌≡◌, ℕ, ◌<◌, ◌≤◌, List, [], ◌∷◌, length, get_or, drop, Some, None, Option, sym, refl, ap, ◌∙◌, subst, ⊎_elim, arith}
use Rattle.std.proofs.lemmas.List.{nil_from_length}
use Rattle.std.proofs.lemmas.Option.{same_Some, none-some}
use Rattle.std.proofs.lemmas.Bool.{cases_lt}
use Rattle.std.proofs.lemmas.Bool.Decides.{nat_tests}
use lib.Bits.{bit_and, and_mask}
use Rattle.frame.specs.declared.form.Direction.{Direction}
use Rattle.frame.specs.declared.form.Direction.TheVariants.{FromHost, FromTnc}
use Rattle.frame.specs.declared.form.Form.{Form}
use Rattle.frame.specs.declared.form.Form.TheVariants.{Bare, Text, Counted}
use Rattle.frame.specs.Frame.{form_of, code_byte_of, code_in, reset_in, toggle_in, ChannelByte, Carries, carried, Frame, Body, frame_in, IsReadAs}
use Rattle.frame.specs.Kinds.{Shown, shows, shown_in, shown_of}
use Rattle.frame.proofs.Bits.{code_back, code_in_byte, reset_in_byte, toggle_in_byte}
use Rattle.frame.proofs.Carried.{one_payload}

-- codes from 8 on are unknown either way
unknown : (d : Direction) (code : ℕ) → 8 ≤ code → form_of d code ≡ None
unknown FromHost code h = grind (arith, nat_tests)
unknown FromTnc code h = grind (arith, nat_tests)

pub known_code : (d : Direction) (code : ℕ) (m : Form) → form_of d code ≡ Some m → code < 8
known_code d code m e =
    ⊎_elim (λ h. h)
    (λ h. let n = unknown d code h in let z : ◌≡◌ {A = ℕ} 0 1 = cc in absurd (omega arith))
    (cases_lt code 8)

-- what the first bytes of a frame's body say
pub code_read : (d : Direction) (body : List ℕ) (f : Frame) → Body d body f → code_in (get_or body 1 0) ≡ f.code
code_read d body f b =
    ap (λ (l : List ℕ). code_in (get_or l 1 0)) b.bytes_are
    ∙ code_in_byte f.code f.reset f.toggle (omega (arith, known_code d f.code b.form b.sendable.known))

pub form_read : (d : Direction) (body : List ℕ) (f : Frame) (b : Body d body f) → form_of d (code_in (get_or body 1 0)) ≡ Some b.form
form_read d body f b = ap (form_of d) (code_read d body f b) ∙ b.sendable.known

pub rest_read : (d : Direction) (body : List ℕ) (f : Frame) (b : Body d body f) → drop 2 body ≡ carried b.form f.payload
rest_read d body f b = ap (drop 2) b.bytes_are

pub channel_read : (d : Direction) (body : List ℕ) (f : Frame) → Body d body f → get_or body 0 0 ≡ f.channel
channel_read d body f b = ap (λ (l : List ℕ). get_or l 0 0) b.bytes_are

pub reset_read : (d : Direction) (body : List ℕ) (f : Frame) → Body d body f → reset_in (get_or body 1 0) ≡ f.reset
reset_read d body f b =
    ap (λ (l : List ℕ). reset_in (get_or l 1 0)) b.bytes_are
    ∙ reset_in_byte f.code f.reset f.toggle (omega (arith, known_code d f.code b.form b.sendable.known))

pub toggle_read : (d : Direction) (body : List ℕ) (f : Frame) → Body d body f → toggle_in (get_or body 1 0) ≡ f.toggle
toggle_read d body f b =
    ap (λ (l : List ℕ). toggle_in (get_or l 1 0)) b.bytes_are
    ∙ toggle_in_byte f.code f.reset f.toggle (omega (arith, known_code d f.code b.form b.sendable.known))

-- a body of two bytes and more, by its parts
split_two : (body : List ℕ) → 2 ≤ length body → body ≡ get_or body 0 0 ∷ get_or body 1 0 ∷ drop 2 body
split_two [] h = absurd (omega arith)
split_two (a ∷ []) h = absurd (omega arith)
split_two (a ∷ b ∷ rest) h = refl

-- a payload that the rest of a body carries makes a frame whose body it is
pub payload_found : (d : Direction) (m : Form) (body rest p : List ℕ)
    → 2 ≤ length body → ChannelByte (get_or body 0 0) → get_or body 1 0 < 256 → form_of d (code_in (get_or body 1 0)) ≡ Some m
    → rest ≡ drop 2 body → Carries m p → rest ≡ carried m p → Body d body (frame_in body p)
payload_found d m body rest p two address fits known e carries holds =
    record {
      form = m;
      sendable = record { known = known; address = address; carries = carries };
      bytes_are = split_two body two
          ∙ ap (λ (c : ℕ). get_or body 0 0 ∷ c ∷ drop 2 body) (sym (code_back (get_or body 1 0) fits))
          ∙ ap (λ (l : List ℕ). get_or body 0 0 ∷ code_byte_of (code_in (get_or body 1 0)) (reset_in (get_or body 1 0)) (toggle_in (get_or body 1 0)) ∷ l) (sym e ∙ holds);
    }

-- a body is that of one frame at most
pub one_frame : (d : Direction) (body : List ℕ) (f g : Frame) → Body d body f → Body d body g → f ≡ g
one_frame d body f g b c =
    let same : b.form ≡ c.form = (let p = form_read d body f b in let q = form_read d body g c in cc) in
    let channel : f.channel ≡ g.channel = sym (channel_read d body f b) ∙ channel_read d body g c in
    let code : f.code ≡ g.code = sym (code_read d body f b) ∙ code_read d body g c in
    let reset : f.reset ≡ g.reset = sym (reset_read d body f b) ∙ reset_read d body g c in
    let toggle : f.toggle ≡ g.toggle = sym (toggle_read d body f b) ∙ toggle_read d body g c in
    let payload : f.payload ≡ g.payload =
    one_payload c.form f.payload g.payload (subst (λ (n : Form). Carries n f.payload) same b.sendable.carries) c.sendable.carries
    (ap (λ (n : Form). carried n f.payload) (sym same) ∙ sym (rest_read d body f b) ∙ rest_read d body g c) in
    λ i. record { channel = channel i; code = code i; reset = reset i; toggle = toggle i; payload = payload i }

-- the form that is found for the masked code byte
pub known_form : (d e : Direction) (body : List ℕ) (o : Option Form)
    → e ≡ d → o ≡ form_of e (bit_and (get_or body 1 0) 63) → form_of d (code_in (get_or body 1 0)) ≡ o
known_form d e body o same found =
    ap (form_of d) (sym (and_mask (get_or body 1 0) 6))
    ∙ ap (λ (x : Direction). form_of x (bit_and (get_or body 1 0) 63)) (sym same)
    ∙ sym found

-- so it is read as the frame whose body it is, and as none where it is that of none
pub read_as : (d : Direction) (body : List ℕ) (g : Frame) → Body d body g → IsReadAs d body (Some g)
read_as d body g c f = (
  λ b. ap (λ (x : Frame). Some x) (one_frame d body g f c b),
  λ e. subst (Body d body) (same_Some g f e) c,
)

pub read_as_none : (d : Direction) (body : List ℕ) → ((f : Frame) → Body d body f → ⊥) → IsReadAs d body None
read_as_none d body nobody f = (λ b. absurd (nobody f b), λ e. absurd (none-some f e))

-- the payload that a parsed frame shows is the one that it was made with
pub payload_shown : (d : Direction) (m : Form) (body p : List ℕ) (s : Shown)
    → Carries m p → form_of d (code_in (get_or body 1 0)) ≡ Some m → Some s ≡ shown_of d (code_in (get_or body 1 0)) p
    → s ≡ shows (code_in (get_or body 1 0)) p
payload_shown d m body p s carries known e = same_Some s _ (e ∙ ap (λ (o : Option Form). shown_in o (code_in (get_or body 1 0)) p) known ∙ by_form m carries)
  where
    by_form : (n : Form) → Carries n p → shown_in (Some n) (code_in (get_or body 1 0)) p ≡ Some (shows (code_in (get_or body 1 0)) p)
    by_form Bare h = ap (λ (q : List ℕ). Some (shows (code_in (get_or body 1 0)) q)) (sym (nil_from_length p h))
    by_form Text h = refl
    by_form Counted h = refl

-- a body whose code is unknown is that of no frame
pub no_form : (d : Direction) (body : List ℕ) → form_of d (code_in (get_or body 1 0)) ≡ None → (f : Frame) → Body d body f → ⊥
no_form d body e f b = none-some b.form (sym e ∙ form_read d body f b)
