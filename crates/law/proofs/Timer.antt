-- What each call keeps of the transmissions and the counts, once a heard body is read:
-- no frame heard takes the link down where the lines repeat nothing.
use Rattle.std.proofs.Common.{◌≡◌, ℕ, zero, suc, pred, ◌<◌, ◌≤◌, min, Bool, true, false, cond, not, ◌&&◌, eqb, ltb, List, [], ◌∷◌, ◌++◌, length, get_or, drop, refl, ap, subst, arith, length-append, ltb-true, eq-eqb, eqb-true}
use mathlib.Core.Bool.{beq}
use lib.Seq.{drop-append-le}
use borrow.Author.Tests.{eqb-false}
use Rattle.frame.specs.Frame.{general}
use Rattle.store.specs.Meaning.{Block, Meaning}
use Rattle.ends.specs.Limits.{last_spare}
use Rattle.ends.specs.Frames.{Load, poll, information, command, Request, success, message, failure, Answer, is_good}
use Rattle.ends.specs.Host.{State, fresh, opening, idle, on_its_way, down, reset_request, one_reset_more, Pick, poll_after_refusal, channel_poll, send_block_of, general_poll, pick, request_for, HostRule, stale, spare_used, opened, confirmed, block_refused, nothing_there, received, listed, no_room, falls, out_of_sequence_rule, to_block_rule, to_poll_rule, to_general, to_load, in_sequence, is_good_list, room_for, lowered, by_hear}
use Rattle.ends.specs.Tnc.{no_answer, TncRule, flagged, early, resets, again, accepts, is_general_poll, no_place, no_channel, list_for, offer, reply_to, answer_to, out_after, accepted_answer, reset_answer, by_tnc}
use Rattle.law.specs.Runs.{World, Limits, begin, after_host, after_tnc, opens, steps, times, no_request, request_at, answer_at}
use Rattle.law.proofs.Steps.{host_heard, tnc_heard, at}
use Rattle.law.proofs.Line.{none}
use Rattle.law.proofs.Count.{one}
use Rattle.law.proofs.Window.{split}
use Rattle.law.proofs.Tally.{miss, miss_on}
use Rattle.law.proofs.Track.{Stage, Ear, deaf, knows, never, same, unlike}
use Rattle.law.proofs.Both.{Track, k_open_fresh, k_open_down, k_step, k_reset_again, k_again, k_fall_opening, k_fall_away, k_repeats_opening, k_repeats_away, k_unheard, k_opened, k_fits, k_taken, k_spare_idle, k_late_idle, k_spare_away, k_late_away, k_silent, k_reset, k_held, k_accept}

-- WHAT IS KEPT

-- what a request shows, and what an answer shows: the flag of a reset, and the toggle
abbrev ff : Request → Bool
ff q = q.reset

abbrev ft : Request → Bool
ft q = q.toggle

abbrev af : Answer → Bool
af a = a.reset

abbrev ag : Answer → Bool
ag a = a.toggle

-- what the host sends
abbrev sendable : Load → Bool
sendable poll = true
sendable (information b) = true
sendable (command p) = false

-- the rules of an answer in sequence that do not take the link down
abbrev in_turn : HostRule → Bool
in_turn stale = false
in_turn spare_used = false
in_turn opened = false
in_turn confirmed = true
in_turn block_refused = true
in_turn nothing_there = true
in_turn received = true
in_turn listed = true
in_turn no_room = true
in_turn (falls cause) = false

-- an answer that no request of the host takes for a wrong one
abbrev Fits : Request → Answer → Type 0
Fits q a = sendable q.load ≡ true → (room : Block → Bool) → in_turn (in_sequence q room a) ≡ true

abbrev Tr : ℕ → ℕ → Stage Request → Bool → Bool → ℕ → ℕ → Ear Answer → List Request → List Answer → Type 0
Tr = Track ff ft af ag Fits

abbrev stage : State → Stage Request
stage fresh = Stage.fresh
stage (opening r) = Stage.opening r
stage idle = Stage.idle
stage (on_its_way q r) = Stage.away q r
stage down = Stage.down

abbrev ear : Bool → Bool → Answer → Ear Answer
ear false last held = deaf
ear true last held = knows last held

abbrev Sends : State → Type 0
Sends fresh = Unit {0}
Sends (opening r) = Unit {0}
Sends idle = Unit {0}
Sends (on_its_way q r) = sendable q.load ≡ true
Sends down = Unit {0}

pub record Counted (w : World) : Type 0 where
  pub up_within : w.up_next ≤ length w.up
  pub dn_within : w.dn_next ≤ length w.dn
  pub sends : Sends w.host.state
  pub track : Tr w.host.setting w.tries (stage w.host.state) w.host.generation w.host.last w.host.spare w.host.resets (ear w.tnc.ready w.tnc.last w.tnc.held) (drop w.up_next w.up) (drop w.dn_next w.dn)

pub counted_begin : (setting : ℕ) (l : Limits) → Counted (begin setting l)
counted_begin setting l = record { up_within = omega arith; dn_within = omega arith; sends = tt; track = record { sync = record { n = 0; m = 0; j = 0; book = λ k. no_request; pend = false; mn = omega arith; ups = none (omega arith); dns = none (omega arith); held = tt; one = λ k a b e. omega arith; alt = λ a. absurd (omega arith); gens = λ k a b c e. absurd (omega arith); top = λ e. absurd (never e); shape = (refl, refl) }; bound = omega arith; as_tried = tt } }

longer : {A : Type 0} (n : ℕ) (written : List A) (x : A) → n ≤ length written → n ≤ length (written ++ x ∷ [])
longer n written x h = simp length-append (omega arith)

-- OPEN, STEP, TIMER

pub counted_open : (w : World) (s : State) → Counted (at w s) → Counted (opens (at w s))
counted_open w fresh i = record { up_within = longer w.up_next w.up _ i.up_within; dn_within = i.dn_within; sends = tt; track = rw (drop-append-le w.up_next w.up (reset_request w.host.generation ∷ []) i.up_within) (k_open_fresh ff ft af ag Fits (reset_request w.host.generation) (one_reset_more w.host.resets) refl refl (omega arith) i.track) }
counted_open w (opening r) i = i
counted_open w idle i = i
counted_open w (on_its_way q r) i = i
counted_open w down i = record { up_within = longer w.up_next w.up _ i.up_within; dn_within = i.dn_within; sends = tt; track = rw (drop-append-le w.up_next w.up (reset_request w.host.generation ∷ []) i.up_within) (k_open_down ff ft af ag Fits (reset_request w.host.generation) (one_reset_more w.host.resets) refl refl (omega arith) i.track) }

request_reset : (t : Bool) (p : Pick) → (request_for t p).reset ≡ false
request_reset t poll_after_refusal = refl
request_reset t (channel_poll c) = refl
request_reset t (send_block_of c b) = refl
request_reset t general_poll = refl

request_toggle : (t : Bool) (p : Pick) → (request_for t p).toggle ≡ t
request_toggle t poll_after_refusal = refl
request_toggle t (channel_poll c) = refl
request_toggle t (send_block_of c b) = refl
request_toggle t general_poll = refl

request_load : (t : Bool) (p : Pick) → sendable (request_for t p).load ≡ true
request_load t poll_after_refusal = refl
request_load t (channel_poll c) = refl
request_load t (send_block_of c b) = refl
request_load t general_poll = refl

pub counted_step : (w : World) (s : State) → Counted (at w s) → Counted (steps (at w s))
counted_step w fresh i = i
counted_step w (opening r) i = i
counted_step w idle i =
    let t : Bool = not w.host.last in
    let p : Pick = pick w.host.block_refused w.host.poll_list w.host_out.waiting in
    record { up_within = longer w.up_next w.up _ i.up_within; dn_within = i.dn_within; sends = request_load t p; track = rw (drop-append-le w.up_next w.up (request_for t p ∷ []) i.up_within) (k_step ff ft af ag Fits (request_for t p) (request_reset t p) (request_toggle t p) i.track) }
counted_step w (on_its_way q r) i = i
counted_step w down i = i

pub counted_timer : (w : World) (s : State) → Counted (at w s) → Counted (times (at w s))
counted_timer w fresh i = i
counted_timer w (opening r) i = go (ltb r w.host.setting) refl
  where
    go : (b : Bool) → ltb r w.host.setting ≡ b → Counted (times (at w (opening r)))
    go true e = rw e (record { up_within = longer w.up_next w.up _ i.up_within; dn_within = i.dn_within; sends = tt; track = rw (drop-append-le w.up_next w.up (reset_request w.host.generation ∷ []) i.up_within) (k_reset_again ff ft af ag Fits (reset_request w.host.generation) (one_reset_more w.host.resets) refl refl (omega arith) (ltb-true r w.host.setting e) i.track) })
    go false e = rw e (record { up_within = i.up_within; dn_within = i.dn_within; sends = tt; track = k_fall_opening ff ft af ag Fits i.track })
counted_timer w idle i = i
counted_timer w (on_its_way q r) i = go (ltb r w.host.setting) refl
  where
    go : (b : Bool) → ltb r w.host.setting ≡ b → Counted (times (at w (on_its_way q r)))
    go true e = rw e (record { up_within = longer w.up_next w.up _ i.up_within; dn_within = i.dn_within; sends = i.sends; track = rw (drop-append-le w.up_next w.up (q ∷ []) i.up_within) (k_again ff ft af ag Fits (ltb-true r w.host.setting e) i.track) })
    go false e = rw e (record { up_within = i.up_within; dn_within = i.dn_within; sends = tt; track = k_fall_away ff ft af ag Fits i.track })
counted_timer w down i = i

-- what the host keeps of a frame's repeats is what the run counts, and at most the setting
pub repeats_opening : (w : World) (r : ℕ) → Counted (at w (opening r)) → (r ≤ w.host.setting) × (r ≡ w.tries)
repeats_opening w r i = k_repeats_opening ff ft af ag Fits i.track

pub repeats_on_its_way : (w : World) (q : Request) (r : ℕ) → Counted (at w (on_its_way q r)) → (r ≤ w.host.setting) × (r ≡ w.tries)
repeats_on_its_way w q r i = k_repeats_away ff ft af ag Fits i.track

-- THE HOST HEARS

-- a call from that state leaves this world: it keeps the counts and takes no link down
pub record Stands (s : State) (v : World) : Type 0 where
  pub counts : Counted v
  pub up : v.host.state ≡ down → s ≡ down

-- the place lies behind that of the last that passed, and a frame stands there
abbrev pub Ahead : {A : Type 0} → ℕ → List A → ℕ → Type 0
Ahead next written x = (next ≤ x) × (x < length written)

abbrev heard_by : World → ℕ → HostRule → World
heard_by w x rule = after_host (by_hear rule (answer_at w x) w.host w.host_out w.host_in) x (suc x) w.tries w

cut_dn : {setting tries : ℕ} {s : Stage Request} {gen last : Bool} {spare resets : ℕ} {e : Ear Answer} {U : List Request} (written : List Answer) (next x : ℕ) → next ≤ x → x < length written → Tr setting tries s gen last spare resets e U (drop next written) → (S : List Answer) × Tr setting tries s gen last spare resets e U (S ++ get_or written x no_answer ∷ drop (suc x) written)
cut_dn {setting} {tries} {s} {gen} {last} {spare} {resets} {e} {U} written next x a b k = let p = split written next x no_answer a b in (p.0, subst (λ (l : List Answer). Tr setting tries s gen last spare resets e U l) p.1 k)

-- stale, or no room: nothing changes but the place
counted_unheard : (w : World) (x : ℕ) → Ahead w.dn_next w.dn x → Counted w → Stands w.host.state (heard_by w x stale)
counted_unheard w x ok i =
    let c = cut_dn w.dn w.dn_next x ok.0 ok.1 i.track in
    record { counts = record { up_within = i.up_within; dn_within = ok.1; sends = i.sends; track = k_unheard ff ft af ag Fits c.0 (answer_at w x) (drop (suc x) w.dn) c.1 }; up = λ e. e }

below_last : (n : ℕ) → pred n < last_spare → (n ≡ last_spare → ⊥) → n < last_spare
below_last zero h q = omega arith
below_last (suc n) h q = omega arith

lowered_once : (n : ℕ) → lowered n < last_spare → (lowered n ≡ pred n) × (n < last_spare)
lowered_once n = go (eqb n last_spare) refl
  where
    go : (b : Bool) → eqb n last_spare ≡ b → cond b n (pred n) < last_spare → (cond b n (pred n) ≡ pred n) × (n < last_spare)
    go true e h = let q = eqb-true n last_spare e in absurd (omega arith)
    go false e h = let q = eqb-false n last_spare e in let u : pred n < last_spare = h in (refl, below_last n u q)

-- a frame out of sequence finds a spare
counted_late_idle : (w : World) (x spare : ℕ) → Ahead w.dn_next w.dn x → Counted (at w idle) → w.host.spare ≡ spare → Stands idle (heard_by (at w idle) x (out_of_sequence_rule spare))
counted_late_idle w x zero ok i e =
    let c = cut_dn w.dn w.dn_next x ok.0 ok.1 i.track in
    let h = k_spare_idle ff ft af ag Fits c.0 (answer_at w x) (drop (suc x) w.dn) c.1 in absurd (omega arith)
counted_late_idle w x (suc spare) ok i e =
    let c = cut_dn w.dn w.dn_next x ok.0 ok.1 i.track in
    record { counts = record { up_within = i.up_within; dn_within = ok.1; sends = tt; track = k_late_idle ff ft af ag Fits c.0 (answer_at w x) (drop (suc x) w.dn) (lowered w.host.spare) (lowered_once w.host.spare) c.1 }; up = λ e. e }

counted_late : (w : World) (x spare : ℕ) (q : Request) (r : ℕ) → Ahead w.dn_next w.dn x → one (miss q.toggle (answer_at w x).reset (answer_at w x).toggle) ≡ 1 → Counted (at w (on_its_way q r)) → w.host.spare ≡ spare → Stands (on_its_way q r) (heard_by (at w (on_its_way q r)) x (out_of_sequence_rule spare))
counted_late w x zero q r ok o i e =
    let c = cut_dn w.dn w.dn_next x ok.0 ok.1 i.track in
    let h = k_spare_away ff ft af ag Fits c.0 (answer_at w x) (drop (suc x) w.dn) o c.1 in absurd (omega arith)
counted_late w x (suc spare) q r ok o i e =
    let c = cut_dn w.dn w.dn_next x ok.0 ok.1 i.track in
    record { counts = record { up_within = i.up_within; dn_within = ok.1; sends = i.sends; track = k_late_away ff ft af ag Fits c.0 (answer_at w x) (drop (suc x) w.dn) (lowered w.host.spare) o (lowered_once w.host.spare) c.1 }; up = λ e. e }

counted_opened : (w : World) (x r : ℕ) → Ahead w.dn_next w.dn x → Counted (at w (opening r)) → (answer_at w x).reset ≡ true → (answer_at w x).toggle ≡ w.host.generation → Stands (opening r) (heard_by (at w (opening r)) x opened)
counted_opened w x r ok i fl tg =
    let c = cut_dn w.dn w.dn_next x ok.0 ok.1 i.track in
    record { counts = record { up_within = i.up_within; dn_within = ok.1; sends = tt; track = k_opened ff ft af ag Fits c.0 (answer_at w x) (drop (suc x) w.dn) (min (pred w.host.resets) last_spare) fl tg (omega arith) (omega arith) c.1 }; up = λ e. cc }

-- an answer in sequence is taken, or finds no room
module _ (w : World) (x : ℕ) (q : Request) (r : ℕ) (ok : Ahead w.dn_next w.dn x) (i : Counted (at w (on_its_way q r))) (fl : (answer_at w x).reset ≡ false) (tg : (answer_at w x).toggle ≡ q.toggle) where
  settles : Tr w.host.setting w.tries Stage.idle w.host.generation (answer_at w x).toggle r w.host.resets (ear w.tnc.ready w.tnc.last w.tnc.held) (drop w.up_next w.up) (drop (suc x) w.dn)
  settles = let c = cut_dn w.dn w.dn_next x ok.0 ok.1 i.track in k_taken ff ft af ag Fits c.0 (answer_at w x) (drop (suc x) w.dn) fl tg c.1

  fits : Fits q (answer_at w x)
  fits = let c = cut_dn w.dn w.dn_next x ok.0 ok.1 i.track in k_fits ff ft af ag Fits c.0 (answer_at w x) (drop (suc x) w.dn) fl tg c.1

  counted_taken : (rule : HostRule) → in_turn rule ≡ true → Stands (on_its_way q r) (heard_by (at w (on_its_way q r)) x rule)
  counted_taken stale e = absurd (never e)
  counted_taken spare_used e = absurd (never e)
  counted_taken opened e = absurd (never e)
  counted_taken confirmed e = record { counts = record { up_within = i.up_within; dn_within = ok.1; sends = tt; track = settles }; up = λ h. cc }
  counted_taken block_refused e = record { counts = record { up_within = i.up_within; dn_within = ok.1; sends = tt; track = settles }; up = λ h. cc }
  counted_taken nothing_there e = record { counts = record { up_within = i.up_within; dn_within = ok.1; sends = tt; track = settles }; up = λ h. cc }
  counted_taken received e = record { counts = record { up_within = i.up_within; dn_within = ok.1; sends = tt; track = settles }; up = λ h. cc }
  counted_taken listed e = record { counts = record { up_within = i.up_within; dn_within = ok.1; sends = tt; track = settles }; up = λ h. cc }
  counted_taken no_room e = counted_unheard (at w (on_its_way q r)) x ok i
  counted_taken (falls cause) e = absurd (never e)

pub counted_hear : (w : World) (s : State) (x : ℕ) → Ahead w.dn_next w.dn x → Counted (at w s) → Stands s (host_heard (answer_at w x) x (at w s))
counted_hear w fresh x ok i = counted_unheard (at w fresh) x ok i
counted_hear w (opening r) x ok i = go (answer_at w x).reset (beq (answer_at w x).toggle w.host.generation) (eqb (answer_at w x).channel general && is_good_list (answer_at w x).reply) refl refl
  where
    go : (a b c : Bool) → (answer_at w x).reset ≡ a → beq (answer_at w x).toggle w.host.generation ≡ b → Stands (opening r) (heard_by (at w (opening r)) x (cond a (cond b (cond c opened stale) stale) stale))
    go true true true e h = counted_opened w x r ok i e (same _ _ h)
    go true true false e h = counted_unheard (at w (opening r)) x ok i
    go true false c e h = counted_unheard (at w (opening r)) x ok i
    go false b c e h = counted_unheard (at w (opening r)) x ok i
counted_hear w idle x ok i = counted_late_idle w x w.host.spare ok i refl
counted_hear w (on_its_way q r) x ok i = go (answer_at w x).reset (beq (answer_at w x).toggle q.toggle) refl refl
  where
    rule : HostRule
    rule = in_sequence q (room_for w.host_in (answer_at w x).channel) (answer_at w x)

    go : (a b : Bool) → (answer_at w x).reset ≡ a → beq (answer_at w x).toggle q.toggle ≡ b → Stands (on_its_way q r) (heard_by (at w (on_its_way q r)) x (cond a (out_of_sequence_rule w.host.spare) (cond b rule (out_of_sequence_rule w.host.spare))))
    go true b e h = counted_late w x w.host.spare q r ok (ap (λ (y : Bool). one (miss q.toggle y (answer_at w x).toggle)) e) i refl
    go false true e h = counted_taken w x q r ok i e (same _ _ h) rule (fits w x q r ok i e (same _ _ h) i.sends _)
    go false false e h = counted_late w x w.host.spare q r ok (miss_on q.toggle (answer_at w x).reset (answer_at w x).toggle h) i refl
counted_hear w down x ok i = counted_unheard (at w down) x ok i

-- THE TNC HEARS

abbrev told_by : World → ℕ → TncRule → World
told_by w x rule = after_tnc (by_tnc rule (request_at w x) w.tnc w.tnc_out w.tnc_in) x w

cut_up : {setting tries : ℕ} {s : Stage Request} {gen last : Bool} {spare resets : ℕ} {e : Ear Answer} {D : List Answer} (written : List Request) (next x : ℕ) → next ≤ x → x < length written → Tr setting tries s gen last spare resets e (drop next written) D → (S : List Request) × Tr setting tries s gen last spare resets e (S ++ get_or written x no_request ∷ drop (suc x) written) D
cut_up {setting} {tries} {s} {gen} {last} {spare} {resets} {e} {D} written next x a b k = let p = split written next x no_request a b in (p.0, subst (λ (l : List Request). Tr setting tries s gen last spare resets e l D) p.1 k)

-- whatever the TNC answers fits, its lists being good
reply_fits : (load : Load) (c : ℕ) (place : Bool) (out : Meaning) → is_good (list_for out) ≡ true → sendable load ≡ true → (room : Block → Bool) → in_turn (to_load load c room (reply_to load c place out)) ≡ true
reply_fits poll c place out g s room = go (eqb c general)
  where
    given : (blocks : List Block) → in_turn (to_poll_rule room (offer blocks)) ≡ true
    given [] = refl
    given (b ∷ blocks) = either (room b)
      where
        either : (y : Bool) → in_turn (cond y received no_room) ≡ true
        either true = refl
        either false = refl

    go : (b : Bool) → in_turn (cond b (to_general (cond b (message (list_for out)) (offer (out.waiting c)))) (to_poll_rule room (cond b (message (list_for out)) (offer (out.waiting c))))) ≡ true
    go true = rw g
    go false = given (out.waiting c)
reply_fits (information b) c place out g s room = go (eqb c general) place
  where
    go : (y z : Bool) → in_turn (to_block_rule (cond y (failure no_channel) (cond z success (failure no_place)))) ≡ true
    go true z = refl
    go false true = refl
    go false false = refl
reply_fits (command p) c place out g s room = absurd (never s)

answer_fits : (q : Request) (place : Bool) (out : Meaning) → is_good (list_for out) ≡ true → Fits q (answer_to q (reply_to q.load q.channel place out))
answer_fits q place out g s room = rw (eq-eqb q.channel q.channel refl) (reply_fits q.load q.channel place out g s room)

counted_silent : (w : World) (x : ℕ) → Ahead w.up_next w.up x → Counted w → Counted (told_by w x flagged)
counted_silent w x ok i =
    let c = cut_up w.up w.up_next x ok.0 ok.1 i.track in
    record { up_within = ok.1; dn_within = i.dn_within; sends = i.sends; track = k_silent ff ft af ag Fits c.0 (request_at w x) (drop (suc x) w.up) c.1 }

counted_reset : (w : World) (x : ℕ) → Ahead w.up_next w.up x → Counted w → (request_at w x).reset ≡ true → Counted (told_by w x resets)
counted_reset w x ok i fl =
    let c = cut_up w.up w.up_next x ok.0 ok.1 i.track in
    let a : Answer = reset_answer (request_at w x) w.tnc w.tnc_out in
    record { up_within = ok.1; dn_within = longer w.dn_next w.dn _ i.dn_within; sends = i.sends; track = rw (drop-append-le w.dn_next w.dn (a ∷ []) i.dn_within) (k_reset ff ft af ag Fits c.0 (request_at w x) (drop (suc x) w.up) a fl fl refl c.1) }

counted_again : (w : World) (x : ℕ) → Ahead w.up_next w.up x → Counted w → (request_at w x).reset ≡ false → w.tnc.ready ≡ true → (request_at w x).toggle ≡ w.tnc.last → Counted (told_by w x again)
counted_again w x ok i fl rd tg =
    let k = rw rd at i.track in
    let c = cut_up w.up w.up_next x ok.0 ok.1 k in
    record { up_within = ok.1; dn_within = longer w.dn_next w.dn _ i.dn_within; sends = i.sends; track = rw (rd, drop-append-le w.dn_next w.dn (w.tnc.held ∷ []) i.dn_within) (k_held ff ft af ag Fits c.0 (request_at w x) (drop (suc x) w.up) fl tg c.1) }

module _ (good : (m : Meaning) → is_good (list_for m) ≡ true) where
  counted_accept : (w : World) (x : ℕ) → Ahead w.up_next w.up x → Counted w → (request_at w x).reset ≡ false → w.tnc.ready ≡ true → ((request_at w x).toggle ≡ w.tnc.last → ⊥) → Counted (told_by w x accepts)
  counted_accept w x ok i fl rd tg =
      let k = rw rd at i.track in
      let c = cut_up w.up w.up_next x ok.0 ok.1 k in
      let a : Answer = accepted_answer (request_at w x) w.tnc w.tnc_out w.tnc_in in
      record { up_within = ok.1; dn_within = longer w.dn_next w.dn _ i.dn_within; sends = i.sends; track = rw (drop-append-le w.dn_next w.dn (a ∷ []) i.dn_within) (k_accept ff ft af ag Fits c.0 (request_at w x) (drop (suc x) w.up) a fl tg fl refl (answer_fits (request_at w x) _ _ (good (out_after accepts w.tnc w.tnc_out))) c.1) }

  pub counted_tnc : (w : World) (x : ℕ) → Ahead w.up_next w.up x → Counted w → Counted (tnc_heard (request_at w x) x w)
  counted_tnc w x ok i = go (request_at w x).reset (is_general_poll (request_at w x)) w.tnc.ready (beq (request_at w x).toggle w.tnc.last) refl refl refl
    where
      go : (a b c d : Bool) → (request_at w x).reset ≡ a → w.tnc.ready ≡ c → beq (request_at w x).toggle w.tnc.last ≡ d → Counted (told_by w x (cond a (cond b resets flagged) (cond c (cond d again accepts) early)))
      go true true c d e g h = counted_reset w x ok i e
      go true false c d e g h = counted_silent w x ok i
      go false b false d e g h = counted_silent w x ok i
      go false b true true e g h = counted_again w x ok i e g (same _ _ h)
      go false b true false e g h = counted_accept w x ok i e g (unlike _ _ h)
