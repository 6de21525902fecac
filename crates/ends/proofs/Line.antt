-- A reader from the first byte on: one byte more, and the frame that it shows.
use Rattle.std.proofs.Common.{◌≡◌, ℕ, ◌<◌, List, [], ◌∷◌, ◌++◌, Some, sym, ap, ◌∙◌, arith}
use Rattle.frame.specs.declared.form.Direction.{Direction}
use Rattle.reader.specs.Read.{Meaning, fresh, passed, hears}
use Rattle.reader.specs.Laws.{after}
use Rattle.reader.proofs.Runs.{after_append, direction_kept}
use Rattle.reader.proofs.Tracks.{bytes_push}
use Rattle.reader.proofs.Counts.{one_wire_form}
use Rattle.ends.specs.Line.{FromStart, FrameIn}

pub at_start : (m : Meaning) (d : Direction) → m ≡ fresh d → FromStart m
at_start m d e = ([], (λ k h. absurd (omega arith)), e ∙ ap fresh (sym (ap (λ (x : Meaning). x.direction) e)))

pub one_more : (m : Meaning) (b : ℕ) → b < 256 → FromStart m → FromStart (hears m b).then
one_more m b fits s =
    let kept : (hears m b).then.direction ≡ m.direction = direction_kept m (b ∷ []) in (
      s.0 ++ b ∷ [],
      bytes_push s.0 b s.1 fits,
      ap (λ (x : Meaning). (hears x b).then) s.2 ∙ sym (after_append (fresh m.direction) s.0 (b ∷ [])) ∙ ap (λ (d : Direction). after (fresh d) (s.0 ++ b ∷ [])) (sym kept),
    )

pub shown : (m : Meaning) (body : List ℕ) → FromStart m → passed m ≡ Some body → FrameIn m.direction body
shown m body s e =
    let r = one_wire_form m.direction s.0 body s.1 (ap passed (sym s.2) ∙ e) in
    (r.1, r.3)
