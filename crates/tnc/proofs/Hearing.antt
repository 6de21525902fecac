-- A byte with which a frame passes: what is answered and done is what the frame asks for.
use Rattle.std.proofs.Common.{◌≡◌, ◌≤◌, ℕ, List, Some, None, Option, Ok, Result, sym, refl, ap, ◌∙◌, subst}
use Rattle.std.specs.Option.{option_map}
use Rattle.std.proofs.lemmas.Bool.{cond-false, le-ltb}
use Rattle.std.proofs.lemmas.Option.{same_Some, none-some}
use Rattle.frame.specs.declared.form.Direction.TheVariants.{FromHost}
use Rattle.frame.specs.Frame.{Frame}
use Rattle.wire.specs.Wire.{longest_wire}
use Rattle.reader.specs.declared.state.Heard.TheVariants as heard
use Rattle.reader.specs.Read.{Next, passed}
use Rattle.store.specs.Meaning.{Meaning}
use Rattle.ends.specs.declared.refusal.Refusal.{Refusal}
use Rattle.ends.specs.Frames.{Request, request_of, frame_read}
use Rattle.ends.specs.Heard.{body_in, or_fault}
use Rattle.ends.specs.Tnc.{Tnc, tnc_step}
use Rattle.tnc.specs.declared.answer.Heard.{Heard}
use Rattle.tnc.specs.Answers.{frame_answer, byte_word}
use Rattle.tnc.specs.Left.{Left}
use Rattle.tnc.specs.Hear.{step_on, hear_call, a_frame, body_answer, hear_answer}
use Rattle.tnc.proofs.Naming.{named_is}

module _ (n : Next) (says : n.says ≡ Ok heard.Frame) (size : ℕ) (wide : longest_wire ≤ size) (t : Tnc) (out inn : Meaning) where
  answers_by : (o : Option (List ℕ)) → passed n.then ≡ o → hear_answer size n t out inn ≡ body_answer o t out inn
  answers_by o e =
      cond-false _ _ _ (le-ltb size longest_wire wide)
      ∙ ap (λ s. or_fault s (body_answer (body_in s n.then) t out inn)) says
      ∙ ap (λ b. body_answer b t out inn) e

  steps_by : (o : Option (List ℕ)) → passed n.then ≡ o → hear_call size n t out inn ≡ step_on o t out inn
  steps_by o e =
      cond-false _ _ _ (le-ltb size longest_wire wide)
      ∙ ap (λ s. step_on (body_in s n.then) t out inn) says
      ∙ ap (λ b. step_on b t out inn) e

  pub frame_heard : (f : Frame) → Some f ≡ option_map (frame_read FromHost) (passed n.then)
      → (hear_answer size n t out inn ≡ a_frame (frame_answer t out inn (request_of f))) × (hear_call size n t out inn ≡ tnc_step t out inn (request_of f))
  frame_heard f shows = go (passed n.then) refl shows
    where
      go : (o : Option (List ℕ)) → passed n.then ≡ o → Some f ≡ option_map (frame_read FromHost) o
          → (hear_answer size n t out inn ≡ a_frame (frame_answer t out inn (request_of f))) × (hear_call size n t out inn ≡ tnc_step t out inn (request_of f))
      go None e s = absurd (none-some f (sym s))
      go (Some body) e s =
          let same = sym (same_Some f (frame_read FromHost body) s) in (
            answers_by (Some body) e ∙ ap (λ (x : Frame). a_frame (frame_answer t out inn (request_of x))) same,
            steps_by (Some body) e ∙ ap (λ (x : Frame). tnc_step t out inn (request_of x)) same,
          )

  -- what the frame's request is answered, names and leaves
  module _ (f : Frame) (shows : Some f ≡ option_map (frame_read FromHost) (passed n.then)) (q : Request) (asks : q ≡ request_of f) where
    pub answered : (r : Result Heard Refusal) → r ≡ frame_answer t out inn q → a_frame r ≡ hear_answer size n t out inn
    answered r is = ap a_frame (is ∙ ap (frame_answer t out inn) asks) ∙ sym (frame_heard f shows).0

    pub named : (r : Result Heard Refusal) → r ≡ frame_answer t out inn q → byte_word (a_frame r) ≡ (hear_call size n t out inn).word
    named r is = ap byte_word (answered r is) ∙ named_is t out inn size n

    pub left : (u : Tnc) (o i : Meaning) (before after : List ℕ) → Left (tnc_step t out inn q) u o i before after → Left (hear_call size n t out inn) u o i before after
    left u o i before after l = subst (λ s. Left s u o i before after) (ap (tnc_step t out inn) asks ∙ sym (frame_heard f shows).1) l
