-- What the host's calls make of every world.
use Rattle.std.proofs.Common.{◌≡◌, ℕ, Bool, true, false, cond, ltb, List, Some, None, Option, Result, refl, ap, ◌∙◌}
use Rattle.wire.specs.Wire.{longest_wire}
use Rattle.reader.specs.Read.{hears}
use Rattle.ends.specs.Frames.{answer_read, nothing}
use Rattle.store.specs.Meaning.{Block}
use Rattle.store.specs.Rules.{copy_source}
use Rattle.store.specs.Calls.{shown_by}
use Rattle.ends.specs.declared.refusal.Refusal.{Refusal}
use Rattle.ends.specs.Blocks.{granted, submit_answer, submit_counts, submit_store, collect_store}
use Rattle.ends.specs.Heard.{body_heard}
use Rattle.ends.specs.Host.{host_counts, HostStep, stays, in_wire, open_rule, step_rule, timer_rule, open_step, step_step, timer_step, open_call, step_call, timer_call, host_rule, HostRule, stale, spare_used, opened, confirmed, block_refused, nothing_there, received, listed, no_room, falls, by_hear}
use Rattle.law.specs.Runs.{World, Call, host_open, host_step, host_timer, host_hear, host_collect, host_submits, submitting, collecting, act, after_host, in_buffer, with_readers, host_hears, with_written, naming, tries_from, tries_more}
use Rattle.law.specs.Sides.{HostSide, host_side, tnc_side, unchanged}
use Rattle.law.proofs.Sides.{HostActs}
use Rattle.host.specs.Hear.{step_on, hear_call}

-- the side that a step leaves
abbrev pub left : HostSide → HostStep → HostSide
left x s = record { host = s.host; ear = x.ear; out = s.out; inn = s.inn }

-- CALLS THAT WRITE

module _ (w : World) (S : HostStep) (t : ℕ) where
  abbrev made : Bool → World
  made b = cond b w (after_host S w.dn_at w.dn_next t w)

  abbrev step : Bool → HostStep
  step b = cond b (stays w.host w.host_out w.host_in) S

  host_made : (b : Bool) → host_side (made b) ≡ left (host_side w) (step b)
  host_made true = refl
  host_made false = refl

  tnc_made : (b : Bool) → tnc_side (made b) ≡ tnc_side w
  tnc_made true = refl
  tnc_made false = refl

  up_made : (b : Bool) → (made b).up ≡ with_written w.up (step b).wrote
  up_made true = refl
  up_made false = refl

  dn_made : (b : Bool) → (made b).dn ≡ w.dn
  dn_made true = refl
  dn_made false = refl

  to_tnc_made : (b : Bool) → (made b).to_tnc ≡ naming (step b).word w.to_tnc
  to_tnc_made true = refl
  to_tnc_made false = refl

  to_host_made : (b : Bool) → (made b).to_host ≡ w.to_host
  to_host_made true = refl
  to_host_made false = refl

module _ (k : Call) (size : ℕ) (S : HostSide → HostStep) (T : World → ℕ) where
  abbrev wired : HostSide → HostStep
  wired x = in_wire size x.host x.out x.inn (S x)

  pub writes : ((w : World) → act k w ≡ in_buffer size w (after_host (S (host_side w)) w.dn_at w.dn_next (T w) w)) → HostActs k (λ x. left x (wired x)) (λ x. (wired x).wrote) (λ x. naming (wired x).word) (λ x. unchanged)
  writes acts = record {
    host_is = λ w. ap host_side (acts w) ∙ host_made w (S (host_side w)) (T w) (ltb size longest_wire);
    tnc_is = λ w. ap tnc_side (acts w) ∙ tnc_made w (S (host_side w)) (T w) (ltb size longest_wire);
    up_is = λ w. ap (λ (v : World). v.up) (acts w) ∙ up_made w (S (host_side w)) (T w) (ltb size longest_wire);
    dn_is = λ w. ap (λ (v : World). v.dn) (acts w) ∙ dn_made w (S (host_side w)) (T w) (ltb size longest_wire);
    to_tnc_is = λ w. ap (λ (v : World). v.to_tnc) (acts w) ∙ to_tnc_made w (S (host_side w)) (T w) (ltb size longest_wire);
    to_host_is = λ w. ap (λ (v : World). v.to_host) (acts w) ∙ to_host_made w (S (host_side w)) (T w) (ltb size longest_wire);
  }

pub opening : (size : ℕ) → HostActs (host_open size) (λ x. left x (open_call size x.host x.out x.inn)) (λ x. (open_call size x.host x.out x.inn).wrote) (λ x. naming (open_call size x.host x.out x.inn).word) (λ x. unchanged)
opening size = writes (host_open size) size (λ x. open_step x.host x.out x.inn) (λ w. tries_from (open_rule w.host.state) w.tries) (λ w. refl)

pub stepping : (size : ℕ) → HostActs (host_step size) (λ x. left x (step_call size x.host x.out x.inn)) (λ x. (step_call size x.host x.out x.inn).wrote) (λ x. naming (step_call size x.host x.out x.inn).word) (λ x. unchanged)
stepping size = writes (host_step size) size (λ x. step_step x.host x.out x.inn) (λ w. tries_from (step_rule w.host.state) w.tries) (λ w. refl)

pub timing : (size : ℕ) → HostActs (host_timer size) (λ x. left x (timer_call size x.host x.out x.inn)) (λ x. (timer_call size x.host x.out x.inn).wrote) (λ x. naming (timer_call size x.host x.out x.inn).word) (λ x. unchanged)
timing size = writes (host_timer size) size (λ x. timer_step x.host x.out x.inn) (λ w. tries_more (timer_rule w.host.setting w.host.state) w.tries) (λ w. refl)

-- HEARING

hear_silent : (r : HostRule) (x : HostSide) (body : List ℕ) → (by_hear r (answer_read body) x.host x.out x.inn).wrote ≡ nothing
hear_silent stale x body = refl
hear_silent spare_used x body = refl
hear_silent opened x body = refl
hear_silent confirmed x body = refl
hear_silent block_refused x body = refl
hear_silent nothing_there x body = refl
hear_silent received x body = refl
hear_silent listed x body = refl
hear_silent no_room x body = refl
hear_silent (falls n) x body = refl

module _ (w : World) (i : ℕ) where
  host_heard : (o : Option (List ℕ)) → host_side (host_hears o i w) ≡ left (host_side w) (step_on o w.host w.host_out w.host_in)
  host_heard None = refl
  host_heard (Some body) = refl

  tnc_heard : (o : Option (List ℕ)) → tnc_side (with_readers (hears w.host_reader 0).then w.tnc_reader (host_hears o i w)) ≡ tnc_side w
  tnc_heard None = refl
  tnc_heard (Some body) = refl

  up_heard : (o : Option (List ℕ)) → (host_hears o i w).up ≡ w.up
  up_heard None = refl
  up_heard (Some body) = ap (with_written w.up) (hear_silent (host_rule w.host w.host_in (answer_read body)) (host_side w) body)

  dn_heard : (o : Option (List ℕ)) → (host_hears o i w).dn ≡ w.dn
  dn_heard None = refl
  dn_heard (Some body) = refl

  to_tnc_heard : (o : Option (List ℕ)) → (host_hears o i w).to_tnc ≡ naming (step_on o w.host w.host_out w.host_in).word w.to_tnc
  to_tnc_heard None = refl
  to_tnc_heard (Some body) = refl

  to_host_heard : (o : Option (List ℕ)) → (host_hears o i w).to_host ≡ w.to_host
  to_host_heard None = refl
  to_host_heard (Some body) = refl

-- the side with another ear
abbrev with_ear : ℕ → HostSide → HostSide → HostSide
with_ear byte x y = record { host = y.host; ear = (hears x.ear byte).then; out = y.out; inn = y.inn }

abbrev pub after_byte : ℕ → HostSide → HostStep
after_byte byte x = hear_call (hears x.ear byte) x.host x.out x.inn

pub hearing : (byte i : ℕ) → HostActs (host_hear byte i) (λ x. with_ear byte x (left x (after_byte byte x))) (λ x. nothing) (λ x. naming (after_byte byte x).word) (λ x. unchanged)
hearing byte i = record {
  host_is = λ w. ap (with_ear byte (host_side w)) (host_heard w i (body_heard (hears w.host_reader byte)));
  tnc_is = λ w. tnc_heard w i (body_heard (hears w.host_reader byte));
  up_is = λ w. up_heard w i (body_heard (hears w.host_reader byte));
  dn_is = λ w. dn_heard w i (body_heard (hears w.host_reader byte));
  to_tnc_is = λ w. to_tnc_heard w i (body_heard (hears w.host_reader byte));
  to_host_is = λ w. to_host_heard w i (body_heard (hears w.host_reader byte));
}

-- SUBMITTING AND COLLECTING

abbrev pub submitted_side : ℕ → Block → HostSide → HostSide
submitted_side c b x = record { host = host_counts x.host (submit_counts x.host.submitted x.out c b); ear = x.ear; out = submit_store x.host.submitted x.out c b; inn = x.inn }

abbrev pub submit_by : ℕ → Block → HostSide → Result ℕ Refusal
submit_by c b x = submit_answer x.host.submitted x.out c b

pub handing : (k : Call) (c : ℕ) (b : Block) → ((w : World) → act k w ≡ host_submits c b w) → HostActs k (submitted_side c b) (λ x. nothing) (λ x. submitting (granted (submit_by c b x)) c b) (λ x. unchanged)
handing k c b acts = record {
  host_is = λ w. ap host_side (acts w);
  tnc_is = λ w. ap tnc_side (acts w);
  up_is = λ w. ap (λ (v : World). v.up) (acts w);
  dn_is = λ w. ap (λ (v : World). v.dn) (acts w);
  to_tnc_is = λ w. ap (λ (v : World). v.to_tnc) (acts w);
  to_host_is = λ w. ap (λ (v : World). v.to_host) (acts w);
}

abbrev pub collected_side : ℕ → ℕ → HostSide → HostSide
collected_side c size x = record { host = x.host; ear = x.ear; out = x.out; inn = collect_store x.inn c size }

pub taking : (c size : ℕ) → HostActs (host_collect c size) (collected_side c size) (λ x. nothing) (λ x. unchanged) (λ x. collecting (granted (copy_source x.inn c size)) c (shown_by (copy_source x.inn c size)))
taking c size = record { host_is = λ w. refl; tnc_is = λ w. refl; up_is = λ w. refl; dn_is = λ w. refl; to_tnc_is = λ w. refl; to_host_is = λ w. refl }
