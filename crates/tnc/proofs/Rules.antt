-- The rule that a frame meets.
use Rattle.std.proofs.Common.{◌≡◌, ◌∙◌, true}
use Rattle.std.proofs.lemmas.Bool.{cond-true}
use Rattle.ends.specs.Frames.{Request}
use Rattle.ends.specs.Tnc.{Tnc, resets, is_general_poll, tnc_rule}

pub reset_met : (t : Tnc) (q : Request) → q.reset ≡ true → is_general_poll q ≡ true → tnc_rule t q ≡ resets
reset_met t q flag poll = cond-true _ _ _ flag ∙ cond-true _ _ _ poll
