-- Why there is no area for a strip.
use Rattle.std.specs.Prelude.{◌≡◌, ℕ, ◌⊎◌, Err}
use Rattle.strip.specs.declared.refusal.AreaRefusal.TheVariants.{BadSize}
use Rattle.strip.specs.Refusal.{check_answer}
use Rattle.replay.specs.declared.area.AreaError.{AreaError}
use Rattle.replay.specs.declared.area.AreaError.TheVariants.{Refused, NoMemory}

-- no memory is left, or no strip has such an area
abbrev pub NoArea : ℕ → AreaError → Type 0
NoArea length e = (e ≡ NoMemory) ⊎ ((e ≡ Refused BadSize) × (check_answer length ≡ Err BadSize))
