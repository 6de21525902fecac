-- Both ends as they are made.
use Rattle.std.specs.Prelude.{◌≡◌, ◌≤◌, ℕ}
use Rattle.store.specs.Meaning.{empty}
use Rattle.ends.specs.Limits.{most_repeats}
use Rattle.law.specs.Runs.{Limits, begin}
use Rattle.law.specs.Sides.{host_side, tnc_side}
use Rattle.host.specs.Side as host_sides
use Rattle.tnc.specs.Side as tnc_sides
use Rattle.link.specs.declared.pair.Ends.{Ends}

-- made with this setting: with empty stores they are the two sides with which a run begins
pub record AreNew (repeats : ℕ) (e : Ends) : Type 0 where
  pub few : repeats ≤ most_repeats
  pub host_begins : (l : Limits)
      → host_side (begin repeats l) ≡ host_sides.side e.host (empty l.host_out) (empty l.host_in)
  pub tnc_begins : (l : Limits)
      → tnc_side (begin repeats l) ≡ tnc_sides.side e.tnc (empty l.tnc_out) (empty l.tnc_in)
