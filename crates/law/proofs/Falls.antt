-- The link falls only when a timer has used up its repeats, on every run in which the lines repeat nothing.
use Rattle.std.proofs.Common.{◌≡◌, ℕ, ◌<◌, Bool, true, false, cond, ltb, ◌↔◌, List, length, Some, None, Option, sym, refl, ap, ◌∙◌, subst, arith, ltb-false, ltb-true}
use Rattle.wire.specs.Wire.{longest_wire}
use Rattle.reader.specs.Read.{hears}
use Rattle.reader.specs.Read as reader
use Rattle.store.specs.Meaning.{Meaning}
use Rattle.ends.specs.Frames.{Request, Answer, request_body, answer_body, request_read, answer_read, is_good}
use Rattle.ends.specs.Host.{State, fresh, opening, idle, on_its_way, down, in_state, sends_again, gives_up, by_timer}
use Rattle.ends.specs.Tnc.{list_for}
use Rattle.law.specs.Runs.{World, Limits, Call, host_open, host_step, host_timer, host_hear, host_submit, host_submit_again, host_collect, tnc_hear, tnc_submit, tnc_collect, host_passes, tnc_passes, with_readers, host_hears, tnc_hears, opens, steps, times, act, request_at, answer_at, Allowed, NotRepeated, Run, start, after, RepeatsNothing}
use Rattle.law.specs.Law.{TakesDown, Unanswered, UsedUp}
use Rattle.law.proofs.Setting.{setting_is}
use Rattle.law.proofs.Steps.{host_heard, tnc_heard, at}
use Rattle.law.proofs.Timer.{Counted, counted_begin, counted_open, counted_step, counted_timer, repeats_opening, repeats_on_its_way, Stands, counted_hear, counted_tnc}

-- A BYTE IS HEARD

-- the bodies of the frames written are read as those frames
abbrev pub AnswersRead : World → Type 0
AnswersRead w = (i : ℕ) → i < length w.dn → answer_read (answer_body (answer_at w i)) ≡ answer_at w i

abbrev pub RequestsRead : World → Type 0
RequestsRead w = (i : ℕ) → i < length w.up → request_read (request_body (request_at w i)) ≡ request_at w i

-- readers are not counted
counted_readers : (hr tr : reader.Meaning) (w : World) → Counted w → Counted (with_readers hr tr w)
counted_readers hr tr w k = record { up_within = k.up_within; dn_within = k.dn_within; sends = k.sends; track = k.track }

counted_host_byte : (w : World) (byte i : ℕ) → AnswersRead w → Allowed (host_hear byte i) w → NotRepeated (host_hear byte i) w → Counted w → Stands w.host.state (act (host_hear byte i) w)
counted_host_byte w byte i reads ok once k = go (host_passes byte w) refl
  where
    hr : reader.Meaning
    hr = (hears w.host_reader byte).then

    go : (p : Option (List ℕ)) → host_passes byte w ≡ p → Stands w.host.state (with_readers hr w.tnc_reader (host_hears p i w))
    go None e = record { counts = counted_readers hr w.tnc_reader w k; up = λ h. h }
    go (Some body) e =
        let is = ok body e in
        let s = counted_hear w w.host.state i (once body e, is.1) k in
        subst (λ (a : Answer). Stands w.host.state (with_readers hr w.tnc_reader (host_heard a i w))) (sym (ap answer_read is.2 ∙ reads i is.1))
        (record { counts = counted_readers hr w.tnc_reader _ s.counts; up = s.up })

-- a call that a buffer may be too short for
counted_buffer : (b : Bool) (w v : World) → Counted w → Counted v → Counted (cond b w v)
counted_buffer true w v k h = k
counted_buffer false w v k h = h

module _ (good : (m : Meaning) → is_good (list_for m) ≡ true) where
  counted_tnc_byte : (w : World) (size byte i : ℕ) → RequestsRead w → Allowed (tnc_hear size byte i) w → NotRepeated (tnc_hear size byte i) w → Counted w → Counted (act (tnc_hear size byte i) w)
  counted_tnc_byte w size byte i reads ok once k = counted_buffer (ltb size longest_wire) w _ k (go (tnc_passes size byte w) refl)
    where
      tr : reader.Meaning
      tr = (hears w.tnc_reader byte).then

      go : (p : Option (List ℕ)) → tnc_passes size byte w ≡ p → Counted (with_readers w.host_reader tr (tnc_hears p i w))
      go None e = counted_readers w.host_reader tr w k
      go (Some body) e =
          let is = ok body e in
          let h = counted_tnc good w i (once body e, is.1) k in
          subst (λ (q : Request). Counted (with_readers w.host_reader tr (tnc_heard q i w))) (sym (ap request_read is.2 ∙ reads i is.1)) (counted_readers w.host_reader tr _ h)

  -- EVERY CALL

  counted_act : (w : World) (c : Call) → AnswersRead w → RequestsRead w → Allowed c w → NotRepeated c w → Counted w → Counted (act c w)
  counted_act w (host_open size) ra rq ok once k = counted_buffer (ltb size longest_wire) w (opens w) k (counted_open w w.host.state k)
  counted_act w (host_step size) ra rq ok once k = counted_buffer (ltb size longest_wire) w (steps w) k (counted_step w w.host.state k)
  counted_act w (host_timer size) ra rq ok once k = counted_buffer (ltb size longest_wire) w (times w) k (counted_timer w w.host.state k)
  counted_act w (host_hear byte i) ra rq ok once k = (counted_host_byte w byte i ra ok once k).counts
  counted_act w (host_submit c b) ra rq ok once k = record { up_within = k.up_within; dn_within = k.dn_within; sends = k.sends; track = k.track }
  counted_act w (host_submit_again c n b) ra rq ok once k = record { up_within = k.up_within; dn_within = k.dn_within; sends = k.sends; track = k.track }
  counted_act w (host_collect c size) ra rq ok once k = record { up_within = k.up_within; dn_within = k.dn_within; sends = k.sends; track = k.track }
  counted_act w (tnc_hear size byte i) ra rq ok once k = counted_tnc_byte w size byte i rq ok once k
  counted_act w (tnc_submit c b) ra rq ok once k = record { up_within = k.up_within; dn_within = k.dn_within; sends = k.sends; track = k.track }
  counted_act w (tnc_collect c size) ra rq ok once k = record { up_within = k.up_within; dn_within = k.dn_within; sends = k.sends; track = k.track }

-- WHO TAKES THE LINK DOWN

open_up : (w : World) (s : State) → (opens (at w s)).host.state ≡ down → s ≡ down
open_up w fresh h = cc
open_up w (opening r) h = h
open_up w idle h = h
open_up w (on_its_way q r) h = h
open_up w down h = refl

step_up : (w : World) (s : State) → (steps (at w s)).host.state ≡ down → s ≡ down
step_up w fresh h = h
step_up w (opening r) h = h
step_up w idle h = cc
step_up w (on_its_way q r) h = h
step_up w down h = refl

timer_falls : (w : World) (s : State) → Counted (at w s) → (s ≡ down → ⊥) → (times (at w s)).host.state ≡ down → Unanswered s × (w.tries ≡ w.host.setting)
timer_falls w fresh k up h = absurd (up h)
timer_falls w (opening r) k up h = go (ltb r w.host.setting) refl h
  where
    go : (b : Bool) → ltb r w.host.setting ≡ b → (by_timer (cond b sends_again gives_up) (in_state w.host (opening r)) w.host_out w.host_in).host.state ≡ down → Unit {0} × (w.tries ≡ w.host.setting)
    go true e y = absurd (let z : ◌≡◌ {A = ℕ} 0 1 = cc in omega arith)
    go false e y = let n = repeats_opening w r k in let l = ltb-false r w.host.setting e in (tt, omega arith)
timer_falls w idle k up h = absurd (up h)
timer_falls w (on_its_way q r) k up h = go (ltb r w.host.setting) refl h
  where
    go : (b : Bool) → ltb r w.host.setting ≡ b → (by_timer (cond b sends_again gives_up) (in_state w.host (on_its_way q r)) w.host_out w.host_in).host.state ≡ down → Unit {0} × (w.tries ≡ w.host.setting)
    go true e y = absurd (let z : ◌≡◌ {A = ℕ} 0 1 = cc in omega arith)
    go false e y = let n = repeats_on_its_way w q r k in let l = ltb-false r w.host.setting e in (tt, omega arith)
timer_falls w down k up h = absurd (up h)

used_up_falls : (w : World) (s : State) → Counted (at w s) → Unanswered s → w.tries ≡ w.host.setting → TakesDown (at w s) (times (at w s))
used_up_falls w fresh k u h = absurd u
used_up_falls w (opening r) k u h = go (ltb r w.host.setting) refl
  where
    go : (b : Bool) → ltb r w.host.setting ≡ b → TakesDown (at w (opening r)) (times (at w (opening r)))
    go true e = let n = repeats_opening w r k in let l = ltb-true r w.host.setting e in absurd (omega arith)
    go false e = rw e (record { was_up = λ y. let z : ◌≡◌ {A = ℕ} 0 1 = cc in omega arith; is_down = refl })
used_up_falls w idle k u h = absurd u
used_up_falls w (on_its_way q r) k u h = go (ltb r w.host.setting) refl
  where
    go : (b : Bool) → ltb r w.host.setting ≡ b → TakesDown (at w (on_its_way q r)) (times (at w (on_its_way q r)))
    go true e = let n = repeats_on_its_way w q r k in let l = ltb-true r w.host.setting e in absurd (omega arith)
    go false e = rw e (record { was_up = λ y. let z : ◌≡◌ {A = ℕ} 0 1 = cc in omega arith; is_down = refl })
used_up_falls w down k u h = absurd u

-- a call that takes no link down takes none down where its buffer is too short either
buffer_up : (b : Bool) (w v : World) → (v.host.state ≡ down → w.host.state ≡ down) → (cond b w v).host.state ≡ down → w.host.state ≡ down
buffer_up true w v up h = h
buffer_up false w v up h = up h

falls_used_up : (w : World) (c : Call) → AnswersRead w → Allowed c w → NotRepeated c w → Counted w → TakesDown w (act c w) → UsedUp w.host.setting w c
falls_used_up w (host_open size) ra ok once k d = absurd (d.was_up (buffer_up (ltb size longest_wire) w (opens w) (open_up w w.host.state) d.is_down))
falls_used_up w (host_step size) ra ok once k d = absurd (d.was_up (buffer_up (ltb size longest_wire) w (steps w) (step_up w w.host.state) d.is_down))
falls_used_up w (host_timer size) ra ok once k d = go (ltb size longest_wire) refl d.is_down
  where
    go : (b : Bool) → ltb size longest_wire ≡ b → (cond b w (times w)).host.state ≡ down → UsedUp w.host.setting w (host_timer size)
    go true e h = absurd (d.was_up h)
    go false e h = let f = timer_falls w w.host.state k d.was_up h in record { size = size; is_timer = refl; fits = e; unanswered = f.0; had = f.1 }
falls_used_up w (host_hear byte i) ra ok once k d = absurd (d.was_up ((counted_host_byte w byte i ra ok once k).up d.is_down))
falls_used_up w (host_submit c b) ra ok once k d = absurd (d.was_up d.is_down)
falls_used_up w (host_submit_again c n b) ra ok once k d = absurd (d.was_up d.is_down)
falls_used_up w (host_collect c size) ra ok once k d = absurd (d.was_up d.is_down)
falls_used_up w (tnc_hear size byte i) ra ok once k d = absurd (d.was_up (buffer_up (ltb size longest_wire) w _ (passes_up (tnc_passes size byte w)) d.is_down))
  where
    passes_up : (p : Option (List ℕ)) → (with_readers w.host_reader (hears w.tnc_reader byte).then (tnc_hears p i w)).host.state ≡ down → w.host.state ≡ down
    passes_up None h = h
    passes_up (Some body) h = h
falls_used_up w (tnc_submit c b) ra ok once k d = absurd (d.was_up d.is_down)
falls_used_up w (tnc_collect c size) ra ok once k d = absurd (d.was_up d.is_down)

used_up_takes : (w : World) (c : Call) → Counted w → UsedUp w.host.setting w c → TakesDown w (act c w)
used_up_takes w c k u = rw (u.is_timer, u.fits) (used_up_falls w w.host.state k u.unanswered u.had)

-- EVERY RUN

module _
    (good : (m : Meaning) → is_good (list_for m) ≡ true)
    (reads_answer : (setting : ℕ) (l : Limits) (w : World) → Run setting l w → AnswersRead w)
    (reads_request : (setting : ℕ) (l : Limits) (w : World) → Run setting l w → RequestsRead w)
  where
    pub counted : {setting : ℕ} {l : Limits} {w : World} (r : Run setting l w) → RepeatsNothing r → Counted w
    counted {setting} {l} start n = counted_begin setting l
    counted {setting} {l} (after {w = w} r c ok) n = counted_act good w c (reads_answer setting l w r) (reads_request setting l w r) ok n.1 (counted r n.0)

    pub timer_clause : (setting : ℕ) (l : Limits) (w : World) (r : Run setting l w) → RepeatsNothing r → (c : Call) → Allowed c w → NotRepeated c w → TakesDown w (act c w) ↔ UsedUp setting w c
    timer_clause setting l w r n c ok once =
        subst (λ (s : ℕ). TakesDown w (act c w) ↔ UsedUp s w c) (setting_is r) (falls_used_up w c (reads_answer setting l w r) ok once (counted r n), used_up_takes w c (counted r n))
