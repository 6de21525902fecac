-- What the TNC's calls make of every world, and how much its hear writes.
use Rattle.std.proofs.Common.{◌≡◌, ℕ, Bool, true, false, cond, ltb, nat_lt, List, Some, None, Option, Ok, Err, Result, refl}
use Rattle.wire.specs.Wire.{longest_wire}
use Rattle.reader.specs.declared.fault.Fault.{Fault}
use Rattle.reader.specs.declared.state.Heard as reader
use Rattle.reader.specs.Read.{Meaning, Next, hears}
use Rattle.store.specs.Meaning as store
use Rattle.store.specs.Rules.{copy_source}
use Rattle.store.specs.Calls.{shown_by}
use Rattle.ends.specs.declared.refusal.Refusal.TheVariants.{ShortWire}
use Rattle.ends.specs.Frames.{Request, answer_body, request_read, nothing}
use Rattle.ends.specs.Blocks.{granted, submit_answer, submit_counts, submit_store, collect_store}
use Rattle.ends.specs.Heard.{body_in, body_heard, or_fault}
use Rattle.ends.specs.Tnc.{Tnc, tnc_counts, TncStep, TncRule, flagged, early, resets, again, accepts, unmoved, by_tnc, tnc_rule}
use Rattle.law.specs.Runs.{World, tnc_hear, tnc_submit, tnc_collect, with_readers, tnc_hears, with_written, naming, submitting, collecting}
use Rattle.law.specs.Sides.{TncSide, host_side, tnc_side, unchanged}
use Rattle.law.proofs.Sides.{TncActs}
use Rattle.law.proofs.Wrote.{length_written}
use Rattle.tnc.specs.Answers.{rule_met, with_step}
use Rattle.tnc.specs.Hear.{step_on, hear_call, a_frame, body_answer, hear_answer}
use Rattle.tnc.specs.Side.{hear_length}

-- HOW MUCH IT WRITES

rule_long : (r : TncRule) (q : Request) (t : Tnc) (out inn : store.Meaning) → hear_length (a_frame (with_step (rule_met r q t out inn) (by_tnc r q t out inn))) ≡ length_written answer_body (by_tnc r q t out inn).wrote
rule_long flagged q t out inn = refl
rule_long early q t out inn = refl
rule_long resets q t out inn = refl
rule_long again q t out inn = refl
rule_long accepts q t out inn = refl

module _ (t : Tnc) (out inn : store.Meaning) where
  body_long : (o : Option (List ℕ)) → hear_length (body_answer o t out inn) ≡ length_written answer_body (step_on o t out inn).wrote
  body_long None = refl
  body_long (Some body) = rule_long (tnc_rule t (request_read body)) (request_read body) t out inn

  says_long : (says : Result reader.Heard Fault) (m : Meaning) → hear_length (or_fault says (body_answer (body_in says m) t out inn)) ≡ length_written answer_body (step_on (body_in says m) t out inn).wrote
  says_long (Ok h) m = body_long (body_in (Ok h) m)
  says_long (Err fault) m = refl

  wire_long : (b : Bool) (n : Next) → hear_length (cond b (Err ShortWire) (or_fault n.says (body_answer (body_heard n) t out inn))) ≡ length_written answer_body (cond b (unmoved t out inn) (step_on (body_heard n) t out inn)).wrote
  wire_long true n = refl
  wire_long false n = says_long n.says n.then

  pub tnc_sent : (size : ℕ) (n : Next) → hear_length (hear_answer size n t out inn) ≡ length_written answer_body (hear_call size n t out inn).wrote
  tnc_sent size n = wire_long (nat_lt size longest_wire) n

-- HEARING

module _ (w : World) (i : ℕ) (m : Meaning) where
  abbrev made : Bool → Option (List ℕ) → World
  made b o = cond b w (with_readers w.host_reader m (tnc_hears (cond b None o) i w))

  abbrev step : Bool → Option (List ℕ) → TncStep
  step b o = cond b (unmoved w.tnc w.tnc_out w.tnc_in) (step_on o w.tnc w.tnc_out w.tnc_in)

  host_made : (b : Bool) (o : Option (List ℕ)) → host_side (made b o) ≡ host_side w
  host_made true o = refl
  host_made false None = refl
  host_made false (Some body) = refl

  tnc_made : (b : Bool) (o : Option (List ℕ)) → tnc_side (made b o) ≡ record { tnc = (step b o).tnc; ear = cond b w.tnc_reader m; out = (step b o).out; inn = (step b o).inn }
  tnc_made true o = refl
  tnc_made false None = refl
  tnc_made false (Some body) = refl

  up_made : (b : Bool) (o : Option (List ℕ)) → (made b o).up ≡ w.up
  up_made true o = refl
  up_made false None = refl
  up_made false (Some body) = refl

  dn_made : (b : Bool) (o : Option (List ℕ)) → (made b o).dn ≡ with_written w.dn (step b o).wrote
  dn_made true o = refl
  dn_made false None = refl
  dn_made false (Some body) = refl

  to_tnc_made : (b : Bool) (o : Option (List ℕ)) → (made b o).to_tnc ≡ w.to_tnc
  to_tnc_made true o = refl
  to_tnc_made false None = refl
  to_tnc_made false (Some body) = refl

  to_host_made : (b : Bool) (o : Option (List ℕ)) → (made b o).to_host ≡ naming (step b o).word w.to_host
  to_host_made true o = refl
  to_host_made false None = refl
  to_host_made false (Some body) = refl

abbrev pub after_byte : ℕ → ℕ → TncSide → TncStep
after_byte size byte x = hear_call size (hears x.ear byte) x.tnc x.out x.inn

abbrev pub ear_after : ℕ → ℕ → TncSide → Meaning
ear_after size byte x = cond (nat_lt size longest_wire) x.ear (hears x.ear byte).then

pub hearing : (size byte i : ℕ) → TncActs (tnc_hear size byte i) (λ x. record { tnc = (after_byte size byte x).tnc; ear = ear_after size byte x; out = (after_byte size byte x).out; inn = (after_byte size byte x).inn }) (λ x. (after_byte size byte x).wrote) (λ x. naming (after_byte size byte x).word) (λ x. unchanged)
hearing size byte i = record {
  host_is = λ w. host_made w i (hears w.tnc_reader byte).then (ltb size longest_wire) (body_heard (hears w.tnc_reader byte));
  tnc_is = λ w. tnc_made w i (hears w.tnc_reader byte).then (ltb size longest_wire) (body_heard (hears w.tnc_reader byte));
  up_is = λ w. up_made w i (hears w.tnc_reader byte).then (ltb size longest_wire) (body_heard (hears w.tnc_reader byte));
  dn_is = λ w. dn_made w i (hears w.tnc_reader byte).then (ltb size longest_wire) (body_heard (hears w.tnc_reader byte));
  to_tnc_is = λ w. to_tnc_made w i (hears w.tnc_reader byte).then (ltb size longest_wire) (body_heard (hears w.tnc_reader byte));
  to_host_is = λ w. to_host_made w i (hears w.tnc_reader byte).then (ltb size longest_wire) (body_heard (hears w.tnc_reader byte));
}

-- SUBMITTING AND COLLECTING

pub handing : (c : ℕ) (b : store.Block) → TncActs (tnc_submit c b) (λ x. record { tnc = tnc_counts x.tnc (submit_counts x.tnc.submitted x.out c b); ear = x.ear; out = submit_store x.tnc.submitted x.out c b; inn = x.inn }) (λ x. nothing) (λ x. submitting (granted (submit_answer x.tnc.submitted x.out c b)) c b) (λ x. unchanged)
handing c b = record { host_is = λ w. refl; tnc_is = λ w. refl; up_is = λ w. refl; dn_is = λ w. refl; to_tnc_is = λ w. refl; to_host_is = λ w. refl }

pub taking : (c size : ℕ) → TncActs (tnc_collect c size) (λ x. record { tnc = x.tnc; ear = x.ear; out = x.out; inn = collect_store x.inn c size }) (λ x. nothing) (λ x. unchanged) (λ x. collecting (granted (copy_source x.inn c size)) c (shown_by (copy_source x.inn c size)))
taking c size = record { host_is = λ w. refl; tnc_is = λ w. refl; up_is = λ w. refl; dn_is = λ w. refl; to_tnc_is = λ w. refl; to_host_is = λ w. refl }
