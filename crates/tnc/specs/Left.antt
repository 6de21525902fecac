-- What a call leaves: the TNC, both stores and the wire buffer, by the step that the rules say.
use Rattle.std.specs.Prelude.{◌≡◌, ℕ, List}
use Rattle.store.specs.Meaning.{Meaning}
use Rattle.ends.specs.Sent.{answer_wire}
use Rattle.ends.specs.Tnc.{Tnc, TncStep}

pub record Left (s : TncStep) (tnc : Tnc) (out inn : Meaning) (before after : List ℕ) : Type 0 where
  pub tnc_is : tnc ≡ s.tnc
  pub out_is : out ≡ s.out
  pub inn_is : inn ≡ s.inn
  pub wire_is : after ≡ answer_wire s.wrote before
