-- The reader's fields: the register over one byte more, and the bounds of the counts.
use Rattle.std.proofs.Common.{◌≡◌, ℕ, ◌+◌, ◌<◌, List, [], ◌∷◌, length, take, set, refl, ap, ◌∙◌}
use Rattle.std.proofs.lemmas.List.{take_more_set}
use Rattle.fcs.specs.Fcs.{step_of, extended, register_of}
use Rattle.fcs.proofs.Extended.{extended_append}

pub register_none : register_of [] ≡ 65535
unfolding extended
register_none = refl

register_one : (c b : ℕ) → extended c (b ∷ []) ≡ step_of c b
unfolding extended
register_one c b = refl

pub register_more : (body : List ℕ) (n b : ℕ) → n < length body → register_of (take (n + 1) (set body n b)) ≡ step_of (register_of (take n body)) b
register_more body n b h =
    ap register_of (take_more_set body n b h) ∙ extended_append 65535 (take n body) (b ∷ []) ∙ register_one (register_of (take n body)) b
