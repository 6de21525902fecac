-- The law of each of the TNC's calls, from what the call leaves and answers.
use Rattle.std.proofs.Common.{◌≡◌, ℕ, nat_lt, cond, List, [], ◌∷◌, length, take, Result, Option, refl, ap, ◌∙◌}
use Rattle.std.specs.Result.{is_ok, result_unwrap_or}
use Rattle.wire.specs.Wire.{longest_wire}
use Rattle.reader.specs.Read.{hears}
use Rattle.store.specs.Meaning.{Block, Meaning, plain}
use Rattle.store.specs.Rules.{copy_source, written_over}
use Rattle.ends.specs.declared.refusal.Refusal.{Refusal}
use Rattle.ends.specs.Frames.{answer_body}
use Rattle.ends.specs.Blocks.{submit_answer, submit_counts, submit_store, collect_answer, collect_store}
use Rattle.ends.specs.Ear.{heard_by}
use Rattle.ends.specs.Tnc.{Tnc, tnc_counts, TncStep}
use Rattle.law.specs.Runs.{tnc_hear, tnc_submit, tnc_collect, naming, submitting, collecting}
use Rattle.law.specs.Sides.{TncLaw, unchanged}
use Rattle.law.proofs.Wrote.{taken}
use Rattle.law.proofs.Handed.{submitted, collected}
use Rattle.law.proofs.Sides.{tnc_law}
use Rattle.tnc.specs.declared.answer.Heard.{Heard}
use Rattle.tnc.specs.declared.tnc.Tnc as kept
use Rattle.tnc.specs.Model.{tnc_of}
use Rattle.tnc.specs.Left.{Left}
use Rattle.tnc.specs.Answers.{byte_word}
use Rattle.tnc.specs.Hear.{hear_call, hear_answer}
use Rattle.tnc.specs.Side.{side, hear_length}
use Rattle.tnc.proofs.Acts.{tnc_sent, ear_after, hearing, handing, taking}

module _ (t q : kept.Tnc) (byte place : ℕ) (wire after : List ℕ) (out inn o i : Meaning) where
  abbrev S : TncStep
  S = hear_call (length wire) (hears (heard_by t.ear) byte) (tnc_of t.link) out inn

  pub hears_it : (r : Result (Option Heard) Refusal) → r ≡ hear_answer (length wire) (hears (heard_by t.ear) byte) (tnc_of t.link) out inn → byte_word r ≡ S.word → Left S (tnc_of q.link) o i wire after
      → heard_by q.ear ≡ cond (nat_lt (length wire) longest_wire) (heard_by t.ear) (hears (heard_by t.ear) byte).then
      → TncLaw (tnc_hear (length wire) byte place) (side t out inn) (side q o i) (take (hear_length r) after) (naming (byte_word r)) unchanged
  hears_it r is named l ear =
      let e = ear_after (length wire) byte (side t out inn) in
      tnc_law (tnc_hear (length wire) byte place) _ _ _ _ (hearing (length wire) byte place) (side t out inn) (side q o i) (take (hear_length r) after) (naming (byte_word r)) unchanged
      (ap (λ x. record { tnc = x; ear = heard_by q.ear; out = o; inn = i }) l.tnc_is
      ∙ ap (λ x. record { tnc = S.tnc; ear = x; out = o; inn = i }) ear
      ∙ ap (λ x. record { tnc = S.tnc; ear = e; out = x; inn = i }) l.out_is
      ∙ ap (λ x. record { tnc = S.tnc; ear = e; out = S.out; inn = x }) l.inn_is)
      (taken answer_body S.wrote wire after (hear_length r) l.wire_is (ap hear_length is ∙ tnc_sent (tnc_of t.link) out inn (length wire) (hears (heard_by t.ear) byte)))
      (ap naming named) refl

module _ (t : kept.Tnc) (out inn : Meaning) where
  pub hands : (c : ℕ) (b : Block) (r : Result ℕ Refusal) → r ≡ submit_answer (tnc_of t.link).submitted out c b
      → (m : Tnc) (o : Meaning) → m ≡ tnc_counts (tnc_of t.link) (submit_counts (tnc_of t.link).submitted out c b) → o ≡ submit_store (tnc_of t.link).submitted out c b
      → TncLaw (tnc_submit c b) (side t out inn) (record { tnc = m; ear = heard_by t.ear; out = o; inn = inn }) [] (submitting (is_ok r) c b) unchanged
  hands c b r is m o tnc into =
      tnc_law (tnc_submit c b) _ _ _ _ (handing c b) (side t out inn) (record { tnc = m; ear = heard_by t.ear; out = o; inn = inn }) [] (submitting (is_ok r) c b) unchanged
      (ap (λ x. record { tnc = x; ear = heard_by t.ear; out = o; inn = inn }) tnc
      ∙ ap (λ x. record { tnc = tnc_counts (tnc_of t.link) (submit_counts (tnc_of t.link).submitted out c b); ear = heard_by t.ear; out = x; inn = inn }) into)
      refl (submitted r _ c b is) refl

  pub takes : (c : ℕ) (old new : List ℕ) (r : Result ℕ Refusal) (i : Meaning) → r ≡ collect_answer inn c (length old) → new ≡ written_over (copy_source inn c (length old)) old → i ≡ collect_store inn c (length old)
      → TncLaw (tnc_collect c (length old)) (side t out inn) (side t out i) [] unchanged (collecting (is_ok r) c (plain (take (result_unwrap_or r 0) new) ∷ []))
  takes c old new r i is buffer into =
      tnc_law (tnc_collect c (length old)) _ _ _ _ (taking c (length old)) (side t out inn) (side t out i) [] unchanged _
      (ap (side t out) into) refl refl (collected (copy_source inn c (length old)) r c old new is buffer)
