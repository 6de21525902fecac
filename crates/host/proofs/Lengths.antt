-- Open, step and timer: what they do in a run, and what they wrote, by what they answered.
use Rattle.std.proofs.Common.{◌≡◌, ◌≤◌, ℕ, Bool, true, false, cond, Ok, Err, nat_lt, refl, sym, ap, ◌∙◌}
use Rattle.std.specs.Result.{result_unwrap_or}
use Rattle.std.proofs.lemmas.Bool.{cond-false, le-ltb}
use Rattle.wire.specs.Wire.{longest_wire}
use Rattle.store.specs.Meaning.{Meaning}
use Rattle.ends.specs.declared.refusal.Refusal.{Refusal}
use Rattle.ends.specs.declared.refusal.Refusal.TheVariants.{ShortWire}
use Rattle.ends.specs.Frames.{request_body}
use Rattle.ends.specs.Blocks.{silent}
use Rattle.ends.specs.Host.{State, fresh, opening, idle, on_its_way, down, Host, HostStep, stays, open_rule, by_open, step_rule, by_step, Sending, not_allowed, sends, sends_again, gives_up, timer_rule, by_timer, timer_call, sent_again, loss_word}
use Rattle.host.specs.Answers as host
use Rattle.host.specs.Answers.{open_answer, step_answer, timer_answer, repeat_length, fall_by}
use Rattle.host.specs.declared.answer.Fall.{Fall}
use Rattle.host.specs.declared.answer.Timed.TheVariants.{Repeated, Down}
use Rattle.host.specs.declared.answer.Cause.TheVariants.{RepeatsUsed}
use Rattle.host.specs.Side.{step_length, timer_length}
use Rattle.law.proofs.Wrote.{length_written}

module _ (size : ℕ) (h : Host) (out inn : Meaning) where
  abbrev short : Bool
  short = nat_lt size longest_wire

  -- where the call was granted, its step counts
  granted : (b : Bool) (s : HostStep) (n : ℕ) (e : Refusal) → n ≡ length_written request_body s.wrote → result_unwrap_or (cond b (Err e) (Ok n)) 0 ≡ length_written request_body (cond b (stays h out inn) s).wrote
  granted true s n e is = refl
  granted false s n e is = is

  refused : (b : Bool) → 0 ≡ length_written request_body (cond b (stays h out inn) (stays h out inn)).wrote
  refused true = refl
  refused false = refl

  pub open_sent : (st : State) → result_unwrap_or (host.sent (open_rule st) size (host.repeat_length (opening 0) h) 0) 0 ≡ length_written request_body (cond short (stays h out inn) (by_open (open_rule st) h out inn)).wrote
  open_sent fresh = granted short (by_open sends h out inn) _ _ refl
  open_sent (opening r) = refused short
  open_sent idle = refused short
  open_sent (on_its_way q r) = refused short
  open_sent down = granted short (by_open sends h out inn) _ _ refl

  unnamed : (b : Bool) (s : HostStep) → silent ≡ s.word → silent ≡ (cond b (stays h out inn) s).word
  unnamed true s is = refl
  unnamed false s is = is

  pub open_word : (st : State) → silent ≡ (cond short (stays h out inn) (by_open (open_rule st) h out inn)).word
  open_word fresh = unnamed short (by_open sends h out inn) refl
  open_word (opening r) = unnamed short (stays h out inn) refl
  open_word idle = unnamed short (stays h out inn) refl
  open_word (on_its_way q r) = unnamed short (stays h out inn) refl
  open_word down = unnamed short (by_open sends h out inn) refl

  pub step_sent : (st : State) → step_length (host.sent (step_rule st) size (host.stepped h out) (host.stepped h out)) ≡ length_written request_body (cond short (stays h out inn) (by_step (step_rule st) h out inn)).wrote
  step_sent fresh = refused short
  step_sent (opening r) = refused short
  step_sent idle = go short
    where
      go : (b : Bool) → step_length (cond b (Err ShortWire) (Ok (host.stepped h out))) ≡ length_written request_body (cond b (stays h out inn) (by_step sends h out inn)).wrote
      go true = refl
      go false = refl
  step_sent (on_its_way q r) = refused short
  step_sent down = refused short

  pub step_word : (st : State) → silent ≡ (cond short (stays h out inn) (by_step (step_rule st) h out inn)).word
  step_word fresh = unnamed short (stays h out inn) refl
  step_word (opening r) = unnamed short (stays h out inn) refl
  step_word idle = unnamed short (by_step sends h out inn) refl
  step_word (on_its_way q r) = unnamed short (stays h out inn) refl
  step_word down = unnamed short (stays h out inn) refl

  -- a repeat is as long as the frame kept
  again_long : (st : State) → repeat_length st h ≡ length_written request_body (sent_again st h.generation)
  again_long fresh = refl
  again_long (opening r) = refl
  again_long idle = refl
  again_long (on_its_way q r) = refl
  again_long down = refl

  timed_by : (r : Sending) (st : State) → h.state ≡ st → (f : Fall) → (r ≡ sends → ⊥) → timer_length (host.sent r size (Repeated (repeat_length st h)) (Down f)) ≡ length_written request_body (cond short (stays h out inn) (by_timer r h out inn)).wrote
  timed_by not_allowed st e f never = refused short
  timed_by sends st e f never = absurd (never refl)
  timed_by sends_again st e f never = go short
    where
      long : repeat_length st h ≡ length_written request_body (sent_again h.state h.generation)
      long = again_long st ∙ ap (λ x. length_written request_body (sent_again x h.generation)) (sym e)

      go : (b : Bool) → timer_length (cond b (Err ShortWire) (Ok (Repeated (repeat_length st h)))) ≡ length_written request_body (cond b (stays h out inn) (by_timer sends_again h out inn)).wrote
      go true = refl
      go false = long
  timed_by gives_up st e f never = go short
    where
      go : (b : Bool) → timer_length (cond b (Err ShortWire) (Ok (Down f))) ≡ length_written request_body (cond b (stays h out inn) (by_timer gives_up h out inn)).wrote
      go true = refl
      go false = refl

  -- a timer begins no frame
  again_or_down : (b : Bool) → cond b sends_again gives_up ≡ sends → ⊥
  again_or_down true e = cc
  again_or_down false e = cc

  no_new : (setting : ℕ) (st : State) → timer_rule setting st ≡ sends → ⊥
  no_new setting fresh e = cc
  no_new setting (opening r) e = again_or_down (nat_lt r setting) e
  no_new setting idle e = cc
  no_new setting (on_its_way q r) e = again_or_down (nat_lt r setting) e
  no_new setting down e = cc

  pub timer_sent : timer_length (timer_answer h size) ≡ length_written request_body (timer_call size h out inn).wrote
  timer_sent = timed_by (timer_rule h.setting h.state) h.state refl (fall_by RepeatsUsed (loss_word h)) (no_new h.setting h.state)

  pub sent_once_more : longest_wire ≤ size → timer_rule h.setting h.state ≡ sends_again → timer_call size h out inn ≡ by_timer sends_again h out inn
  sent_once_more wide rule = cond-false _ _ _ (le-ltb size longest_wire wide) ∙ ap (λ (r : Sending). by_timer r h out inn) rule
