-- The rule that a frame meets, by the state: in opening, in sequence after a general poll, and out of sequence.
use Rattle.std.proofs.Common.{◌≡◌, if◌then◌else◌, ℕ, Bool, true, false, not, List, sym, refl, ap, ◌∙◌, subst, Bor}
use mathlib.Core.Bool.{beq}
use Rattle.std.proofs.lemmas.Bool.{cond-true, cond-false, not-true, not-false}
use Rattle.frame.specs.declared.frames.TncFrame.{TncFrame}
use Rattle.frame.specs.declared.frames.TncFrame.TheVariants as tnc
use Rattle.frame.specs.declared.head.Address.{Address}
use Rattle.frame.specs.declared.head.Address.TheVariants.{Channel, General}
use Rattle.frame.specs.declared.head.Head.{Head}
use Rattle.frame.specs.Frame.{general}
use Rattle.frame.specs.Kinds.{tnc_suits}
use Rattle.store.specs.Meaning.{Meaning}
use Rattle.ends.specs.Frames.{poll, Request, Answer, message, is_good}
use Rattle.ends.specs.Host.{Host, State, opening, idle, on_its_way, rule_in, room_for, out_of_sequence_rule, opened, stale, listed, falls}
use Rattle.host.specs.declared.host.rule.Rule.{Rule}
use Rattle.host.specs.Rule.{answer_shown, answer_with, Carries, IsAny, IsNamed, IsRule}

module _ (h : Host) (inn : Meaning) where
  -- what a rule found for a state is, if it has the name of the frame's rule
  named : (of : Answer → Type 0) (a : Answer) (r : Rule) (s : State) → h.state ≡ s → of a → IsNamed inn (rule_in s h (room_for inn a.channel) a) of r → IsRule h inn a r
  named of a r s at fits n = record {
    rule = n.rule ∙ sym (ap (λ (x : State). rule_in x h (room_for inn a.channel) a) at);
    brings = n.brings a fits;
    confirms = n.confirms h.state;
  }

  renamed : (of : Answer → Type 0) (r : Rule) (one other : _) → one ≡ other → IsNamed inn one of r → IsNamed inn other of r
  renamed of r one other e n = record { rule = n.rule ∙ e; brings = n.brings; confirms = n.confirms }

  -- the reset's answer
  pub is_opened : (n : ℕ) (head : Head) (frame : TncFrame) (text : Bor (List ℕ)) (r : Rule)
      → h.state ≡ opening n → head.reset ≡ true → beq head.toggle h.generation ≡ true → frame ≡ tnc.List text → tnc_suits head.address frame
      → IsNamed inn (if is_good text.now then opened else stale) (Carries text.now) r → IsRule h inn (answer_shown head frame) r
  is_opened n head frame text r at reset toggle is suits names =
      subst (λ (f : TncFrame). IsRule h inn (answer_shown head f) r) (sym is)
      (by_address head.address (subst (tnc_suits head.address) is suits))
    where
      by_address : (a : Address) → tnc_suits a (tnc.List text) → IsRule h inn (answer_shown (record { address = a; reset = head.reset; toggle = head.toggle }) (tnc.List text)) r
      by_address (Channel c) s = absurd s
      by_address General s =
          named (Carries text.now) (answer_with general head.reset head.toggle (message text.now)) r (opening n) at refl
          (renamed (Carries text.now) r _ _ (sym (cond-true _ _ _ reset ∙ cond-true _ _ _ toggle)) names)

  -- a frame out of sequence: in idle; or on its way, flagged or with another toggle
  pub is_idle : (a : Answer) (r : Rule) → h.state ≡ idle → IsNamed inn (out_of_sequence_rule h.spare) IsAny r → IsRule h inn a r
  is_idle a r at names = named IsAny a r idle at tt names

  pub is_flagged : (q : Request) (n : ℕ) (a : Answer) (r : Rule) → h.state ≡ on_its_way q n → a.reset ≡ true
      → IsNamed inn (out_of_sequence_rule h.spare) IsAny r → IsRule h inn a r
  is_flagged q n a r at reset names = named IsAny a r (on_its_way q n) at tt (renamed IsAny r _ _ (sym (cond-true _ _ _ reset)) names)

  pub is_other_toggle : (q : Request) (n : ℕ) (a : Answer) (r : Rule) → h.state ≡ on_its_way q n → a.reset ≡ false → not (beq a.toggle q.toggle) ≡ true
      → IsNamed inn (out_of_sequence_rule h.spare) IsAny r → IsRule h inn a r
  is_other_toggle q n a r at reset other names =
      named IsAny a r (on_its_way q n) at tt (renamed IsAny r _ _ (sym (cond-false _ _ _ reset ∙ cond-false _ _ _ (not-true _ other))) names)

  -- the general poll's answer
  pub is_listed : (toggle : Bool) (n : ℕ) (head : Head) (frame : TncFrame) (text : Bor (List ℕ)) (r : Rule)
      → h.state ≡ on_its_way (record { channel = general; reset = false; toggle = toggle; load = poll }) n
      → head.reset ≡ false → not (beq head.toggle toggle) ≡ false → frame ≡ tnc.List text → tnc_suits head.address frame
      → IsNamed inn (if is_good text.now then listed else falls 3) (Carries text.now) r → IsRule h inn (answer_shown head frame) r
  is_listed toggle n head frame text r at reset same is suits names =
      subst (λ (f : TncFrame). IsRule h inn (answer_shown head f) r) (sym is)
      (by_address head.address (subst (tnc_suits head.address) is suits))
    where
      by_address : (a : Address) → tnc_suits a (tnc.List text) → IsRule h inn (answer_shown (record { address = a; reset = head.reset; toggle = head.toggle }) (tnc.List text)) r
      by_address (Channel c) s = absurd s
      by_address General s =
          named (Carries text.now) (answer_with general head.reset head.toggle (message text.now)) r _ at refl
          (renamed (Carries text.now) r _ _ (sym (cond-false _ _ _ reset ∙ cond-true _ _ _ (not-false _ same))) names)
