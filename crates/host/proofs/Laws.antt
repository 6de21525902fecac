-- The law of each of the host's calls, from what the call leaves and answers.
use Rattle.std.proofs.Common.{◌≡◌, ℕ, List, [], ◌∷◌, length, take, Result, sym, refl, ap, ◌∙◌, subst}
use Rattle.std.specs.Result.{is_ok, result_unwrap_or}
use Rattle.reader.specs.Read.{hears}
use Rattle.store.specs.Meaning.{Block, Meaning, plain}
use Rattle.store.specs.Rules.{copy_source, written_over}
use Rattle.ends.specs.declared.refusal.Refusal.{Refusal}
use Rattle.ends.specs.Frames.{request_body}
use Rattle.ends.specs.Blocks.{Word, submit_answer, submit_counts, submit_store, collect_answer, collect_store}
use Rattle.ends.specs.Ear.{heard_by}
use Rattle.ends.specs.Host.{Host, host_counts, HostStep, open_call, step_call, timer_call}
use Rattle.law.specs.Runs.{World, Call, act, host_open, host_step, host_timer, host_hear, host_collect, host_submits, naming, submitting, collecting}
use Rattle.law.specs.Sides.{HostSide, HostLaw, unchanged}
use Rattle.law.proofs.Wrote.{taken}
use Rattle.law.proofs.Handed.{submitted, collected}
use Rattle.law.proofs.Sides.{host_law}
use Rattle.host.specs.declared.answer.Stepped.{Stepped}
use Rattle.host.specs.declared.answer.Timed.{Timed}
use Rattle.host.specs.declared.host.Host as kept
use Rattle.host.specs.Model.{host_of}
use Rattle.host.specs.Left.{Leaves, Stands}
use Rattle.host.specs.Answers.{open_answer, step_answer, timer_answer, timed_word}
use Rattle.host.specs.Hear.{hear_call}
use Rattle.host.specs.Side.{side, step_length, timer_length}
use Rattle.host.proofs.Lengths.{open_sent, open_word, step_sent, step_word, timer_sent}
use Rattle.host.proofs.Acts.{left, opening, stepping, timing, hearing, handing, taking}

-- the side after a call that heard nothing
abbrev with_host : kept.Host → Host → Meaning → Meaning → HostSide
with_host h m o i = record { host = m; ear = heard_by h.ear; out = o; inn = i }

side_left : (h : kept.Host) (S : HostStep) (m : Host) (o i out inn : Meaning) → m ≡ S.host → o ≡ S.out → i ≡ S.inn → with_host h m o i ≡ left (side h out inn) S
side_left h S m o i out inn host out_is inn_is = ap (λ x. with_host h x o i) host ∙ ap (λ x. with_host h S.host x i) out_is ∙ ap (λ x. with_host h S.host S.out x) inn_is

module _ (h : kept.Host) (m : Host) (wire after : List ℕ) (out inn o : Meaning) where
  pub opens : (r : Result ℕ Refusal) → r ≡ open_answer (host_of h.link) (length wire) → Leaves (open_call (length wire) (host_of h.link) out inn) m out inn wire after
      → HostLaw (host_open (length wire)) (side h out inn) (with_host h m out inn) (take (result_unwrap_or r 0) after) unchanged unchanged
  opens r is l =
      let size = length wire in
      let S = open_call size (host_of h.link) out inn in
      host_law (host_open size) _ _ _ _ (opening size) (side h out inn) (with_host h m out inn) (take (result_unwrap_or r 0) after) unchanged unchanged
      (side_left h S m out inn out inn l.host_is l.out_is l.inn_is)
      (taken request_body S.wrote wire after (result_unwrap_or r 0) l.wire_is (ap (λ x. result_unwrap_or x 0) is ∙ open_sent size (host_of h.link) out inn (host_of h.link).state))
      (ap naming (open_word size (host_of h.link) out inn (host_of h.link).state)) refl

  pub steps : (r : Result Stepped Refusal) → r ≡ step_answer (host_of h.link) out (length wire) → Leaves (step_call (length wire) (host_of h.link) out inn) m out inn wire after
      → HostLaw (host_step (length wire)) (side h out inn) (with_host h m out inn) (take (step_length r) after) unchanged unchanged
  steps r is l =
      let size = length wire in
      let S = step_call size (host_of h.link) out inn in
      host_law (host_step size) _ _ _ _ (stepping size) (side h out inn) (with_host h m out inn) (take (step_length r) after) unchanged unchanged
      (side_left h S m out inn out inn l.host_is l.out_is l.inn_is)
      (taken request_body S.wrote wire after (step_length r) l.wire_is (ap step_length is ∙ step_sent size (host_of h.link) out inn (host_of h.link).state))
      (ap naming (step_word size (host_of h.link) out inn (host_of h.link).state)) refl

  pub times : (r : Result Timed Refusal) → r ≡ timer_answer (host_of h.link) (length wire) → timed_word r ≡ (timer_call (length wire) (host_of h.link) out inn).word
      → Leaves (timer_call (length wire) (host_of h.link) out inn) m o inn wire after
      → HostLaw (host_timer (length wire)) (side h out inn) (with_host h m o inn) (take (timer_length r) after) (naming (timed_word r)) unchanged
  times r is named l =
      let size = length wire in
      let S = timer_call size (host_of h.link) out inn in
      host_law (host_timer size) _ _ _ _ (timing size) (side h out inn) (with_host h m o inn) (take (timer_length r) after) (naming (timed_word r)) unchanged
      (side_left h S m o inn out inn l.host_is l.out_is l.inn_is)
      (taken request_body S.wrote wire after (timer_length r) l.wire_is (ap timer_length is ∙ timer_sent size (host_of h.link) out inn))
      (ap naming named) refl

module _ (h q : kept.Host) (byte place : ℕ) (out inn o i : Meaning) where
  abbrev S : HostStep
  S = hear_call (hears (heard_by h.ear) byte) (host_of h.link) out inn

  pub hears_it : (word : Word) → word ≡ S.word → Stands S (host_of q.link) o i → heard_by q.ear ≡ (hears (heard_by h.ear) byte).then
      → HostLaw (host_hear byte place) (side h out inn) (side q o i) [] (naming word) unchanged
  hears_it word named s ear =
      host_law (host_hear byte place) _ _ _ _ (hearing byte place) (side h out inn) (side q o i) [] (naming word) unchanged
      (ap (λ x. record { host = x; ear = heard_by q.ear; out = o; inn = i }) s.host_is
      ∙ ap (λ x. record { host = S.host; ear = x; out = o; inn = i }) ear
      ∙ ap (λ x. record { host = S.host; ear = (hears (heard_by h.ear) byte).then; out = x; inn = i }) s.out_is
      ∙ ap (λ x. record { host = S.host; ear = (hears (heard_by h.ear) byte).then; out = S.out; inn = x }) s.inn_is)
      refl (ap naming named) refl

module _ (h : kept.Host) (out inn : Meaning) where
  module _ (k : Call) (c : ℕ) (b : Block) where
    pub hands : ((w : World) → act k w ≡ host_submits c b w) → (r : Result ℕ Refusal) → r ≡ submit_answer (host_of h.link).submitted out c b
        → (m : Host) (o : Meaning) → m ≡ host_counts (host_of h.link) (submit_counts (host_of h.link).submitted out c b) → o ≡ submit_store (host_of h.link).submitted out c b
        → HostLaw k (side h out inn) (with_host h m o inn) [] (submitting (is_ok r) c b) unchanged
    hands acts r is m o host into =
        host_law k _ _ _ _ (handing k c b acts) (side h out inn) (with_host h m o inn) [] (submitting (is_ok r) c b) unchanged
        (ap (λ x. with_host h x o inn) host ∙ ap (λ x. with_host h (host_counts (host_of h.link) (submit_counts (host_of h.link).submitted out c b)) x inn) into)
        refl (submitted r _ c b is) refl

  -- by a note, whose channel is k
  pub hands_again : (call : Call) (k c : ℕ) (b : Block) → ((w : World) → act call w ≡ host_submits k b w) → (r : Result ℕ Refusal) → k ≡ c → r ≡ submit_answer (host_of h.link).submitted out c b
      → (q : kept.Host) (o : Meaning) → host_of q.link ≡ host_counts (host_of h.link) (submit_counts (host_of h.link).submitted out c b) → q.ear ≡ h.ear → o ≡ submit_store (host_of h.link).submitted out c b
      → HostLaw call (side h out inn) (side q o inn) [] (submitting (is_ok r) k b) unchanged
  hands_again call k c b acts r same is q o host ear into =
      subst (λ e. HostLaw call (side h out inn) (record { host = host_of q.link; ear = heard_by e; out = o; inn = inn }) [] (submitting (is_ok r) k b) unchanged) (sym ear)
      (hands call k b acts r (is ∙ ap (λ x. submit_answer (host_of h.link).submitted out x b) (sym same)) (host_of q.link) o
      (host ∙ ap (λ x. host_counts (host_of h.link) (submit_counts (host_of h.link).submitted out x b)) (sym same))
      (into ∙ ap (λ x. submit_store (host_of h.link).submitted out x b) (sym same)))

  pub takes : (c : ℕ) (old new : List ℕ) (r : Result ℕ Refusal) (i : Meaning) → r ≡ collect_answer inn c (length old) → new ≡ written_over (copy_source inn c (length old)) old → i ≡ collect_store inn c (length old)
      → HostLaw (host_collect c (length old)) (side h out inn) (side h out i) [] unchanged (collecting (is_ok r) c (plain (take (result_unwrap_or r 0) new) ∷ []))
  takes c old new r i is buffer into =
      host_law (host_collect c (length old)) _ _ _ _ (taking c (length old)) (side h out inn) (side h out i) [] unchanged _
      (ap (side h out) into) refl refl (collected (copy_source inn c (length old)) r c old new is buffer)
