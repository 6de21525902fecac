-- What a call wrote, at the start of its buffer.
use Rattle.std.proofs.Common.{◌≡◌, ℕ, List, ◌++◌, length, take, drop, refl, ap, ◌∙◌}
use Rattle.std.proofs.lemmas.List.{take_at}
use Rattle.wire.specs.Wire.{wire_of}
use Rattle.ends.specs.Frames.{Written, nothing, one}
use Rattle.law.specs.Sides.{wire_written}

module _ {A : Type 0} (body : A → List ℕ) where
  abbrev pub length_written : Written A → ℕ
  length_written nothing = 0
  length_written (one f) = length (wire_of (body f))

  abbrev pub buffer_after : Written A → List ℕ → List ℕ
  buffer_after nothing old = old
  buffer_after (one f) old = wire_of (body f) ++ drop (length (wire_of (body f))) old

  pub taken : (w : Written A) (old new : List ℕ) (n : ℕ) → new ≡ buffer_after w old → n ≡ length_written w → take n new ≡ wire_written body w
  taken nothing old new n is long = ap (λ (k : ℕ). take k new) long
  taken (one f) old new n is long =
      ap (λ (k : ℕ). take k new) long ∙ ap (take (length (wire_of (body f)))) is ∙ take_at (wire_of (body f)) (drop (length (wire_of (body f))) old) (length (wire_of (body f))) refl
