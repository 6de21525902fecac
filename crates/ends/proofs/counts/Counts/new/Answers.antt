-- Every count is 0, and so is what stands past the last.
use Rattle.std.proofs.Common.{◌≡◌, ℕ, zero, suc, get_or, replicate, refl, ap, rules}
use mathlib.Core.Path.{fun_ext}
use Rattle.ends.specs.declared.counts.Count.{Count}
use Rattle.ends.specs.Counts.{no_count}
use Rattle.ends.proofs.counts.Counts.new.Goals as goal

none_at : (x : Count) (n i : ℕ) → x ≡ no_count → get_or (replicate n x) i no_count ≡ no_count
none_at x zero i e = refl
none_at x (suc n) zero e = e
none_at x (suc n) (suc i) e = none_at x n i e

pub returns : goal.returns
returns c =
    let e : c.default-none.result ≡ no_count = search rules in
    record {
      submitted = fun_ext (λ i. ap (λ (x : Count). x.submitted) (none_at _ 64 i e));
      gone = fun_ext (λ i. ap (λ (x : Count). x.gone) (none_at _ 64 i e));
    }
