-- The TNC's answers may be sent.
use Rattle.std.proofs.Common.{◌≡◌, ℕ, zero, suc, ◌≤◌, Bool, true, ◌&&◌, not, eqb, List, [], ◌∷◌, length}
use Rattle.std.proofs.Common.{sym, refl, ap, ◌∙◌, subst, inl, inr, arith, rules}
use Rattle.std.proofs.lemmas.Bool.{not-true, eqb-false, and_parts}
use Rattle.std.proofs.lemmas.List.{length-take-le}
use Rattle.frame.specs.declared.form.Direction.TheVariants.{FromTnc}
use Rattle.frame.specs.declared.frames.TncFrame.{TncFrame}
use Rattle.frame.specs.declared.head.Address.{Address}
use Rattle.frame.specs.declared.head.Head.{Head}
use Rattle.frame.specs.Frame.{longest_block, Frame, Body, NoZero}
use Rattle.frame.specs.Head.{byte_of, framed}
use Rattle.frame.specs.Kinds.{tnc_shows}
use Rattle.wire.proofs.Short.{address_byte}
use Rattle.ends.specs.Frames.{reply_code, reply_payload, answer_frame, answer_body}
use Rattle.ends.specs.declared.kept.KeptBlock.{KeptBlock}
use Rattle.ends.specs.Kept.{block_of}
use Rattle.ends.specs.Tnc.{no_place, no_channel, unknown}
use Rattle.ends.proofs.Fit.{FitAnswer, answer_body_is}
use Rattle.tnc.specs.declared.held.Given.{Given}
use Rattle.tnc.specs.declared.held.Given.TheVariants as given
use Rattle.tnc.specs.declared.held.Held.{Held}
use Rattle.tnc.specs.Held.{given_channel, given_reply, given_answer, held_answer, reply_shows}

-- a text has no 00, as a test
abbrev no_zero : List ℕ → Bool
no_zero [] = true
no_zero (x ∷ xs) = not (eqb x 0) && no_zero xs

no_zero_is : (xs : List ℕ) → no_zero xs ≡ true → NoZero xs
no_zero_is [] e k h q = omega arith
no_zero_is (x ∷ xs) e zero h q = eqb-false x 0 (not-true (eqb x 0) (and_parts (not (eqb x 0)) (no_zero xs) e).0) q
no_zero_is (x ∷ xs) e (suc k) h q = no_zero_is xs (and_parts (not (eqb x 0)) (no_zero xs) e).1 k (omega arith) q

-- a kept block has 1 to 256 bytes
length_kept : (k : KeptBlock) → length (block_of k).bytes ≡ k.len
length_kept k = length-take-le k.len k.bytes (search rules)

kept_some : (k : KeptBlock) → 1 ≤ length (block_of k).bytes
kept_some k = subst (λ (n : ℕ). 1 ≤ n) (sym (length_kept k)) k.some

kept_short : (k : KeptBlock) → length (block_of k).bytes ≤ longest_block
kept_short k = subst (λ (n : ℕ). n ≤ longest_block) (sym (length_kept k)) k.short

given_fits : (g : Given) (reset toggle : Bool) → FitAnswer (given_answer g reset toggle)
given_fits (given.Success c) reset toggle = record { place = inl c.within; shape = tt }
given_fits (given.NoPlace c) reset toggle = record { place = inl c.within; shape = (omega arith, no_zero_is no_place refl) }
given_fits given.NoChannel reset toggle = record { place = inr refl; shape = (omega arith, no_zero_is no_channel refl) }
given_fits (given.Unknown a) reset toggle = record { place = address_byte a; shape = (omega arith, no_zero_is unknown refl) }
given_fits (given.List l) reset toggle = record { place = inr refl; shape = l.good }
given_fits (given.Block c k) reset toggle = record { place = inl c.within; shape = (c.within, (kept_some k, kept_short k)) }

-- the frame that has a held answer's address and shows its reply has the answer's body
module _ (h : Held) (a : Address) (f : TncFrame) where
  abbrev pub head : Head
  head = record { address = a; reset = h.reset; toggle = h.toggle }

  abbrev reply_frame : ℕ → Frame
  reply_frame c = record { channel = c; code = reply_code (given_reply h.given); reset = h.reset; toggle = h.toggle; payload = reply_payload (given_reply h.given) }

  pub answer_fits : byte_of a ≡ given_channel h.given → tnc_shows f ≡ reply_shows (given_reply h.given) → Body FromTnc (answer_body (held_answer h)) (framed head (tnc_shows f))
  answer_fits at shows =
      let same : framed head (tnc_shows f) ≡ answer_frame (held_answer h) = ap (framed head) shows ∙ ap reply_frame at in
      subst (λ (x : Frame). Body FromTnc (answer_body (held_answer h)) x) (sym same) (answer_body_is (held_answer h) (given_fits h.given h.reset h.toggle))
