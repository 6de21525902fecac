-- The run of the cases: the line rule is tried call by call, and the rest computed.
use Rattle.std.proofs.Common.{◌≡◌, ℕ, ◌<◌, ◌≤◌, Bool, true, false, ◌&&◌, nat_lt, nat_le, nat_eq, List, [], ◌∷◌, length, Some, None, Option, sym, refl, ap₂, ◌∙◌}
use Rattle.std.proofs.lemmas.Bool.{ltb-true, leb-true, eqb-true, and_parts}
use Rattle.fcs.specs.Fcs.{extended, step_of, eight}
use Rattle.store.specs.Meaning.{waiting_below}
use Rattle.ends.specs.Frames.{answer_body, request_body}
use Rattle.ends.specs.Host.{lowest_below}
use Rattle.ends.specs.Tnc.{waiting_to}
use Rattle.law.specs.Runs.{World, Limits, Call, host_open, host_step, host_timer, host_hear, host_submit, host_submit_again, host_collect, tnc_hear, tnc_submit, tnc_collect, host_passes, tnc_passes, act, begin, Allowed, answer_at, request_at, Run, start, after}
use Rattle.cases.specs.RunCase.{calls, after_calls, limits, RunCase}

-- WHETHER THE LINE RULE ALLOWS A CALL

abbrev same : List ℕ → List ℕ → Bool
same [] [] = true
same [] (y ∷ ys) = false
same (x ∷ xs) [] = false
same (x ∷ xs) (y ∷ ys) = nat_eq x y && same xs ys

same_is : (xs ys : List ℕ) → same xs ys ≡ true → xs ≡ ys
same_is [] [] is = refl
same_is [] (y ∷ ys) is = cc
same_is (x ∷ xs) [] is = cc
same_is (x ∷ xs) (y ∷ ys) is = let p = and_parts (nat_eq x y) (same xs ys) is in ap₂ (λ a b. a ∷ b) (eqb-true x y p.0) (same_is xs ys p.1)

abbrev fits : Option (List ℕ) → ℕ → ℕ → ℕ → List ℕ → Bool
fits None at i n written = true
fits (Some body) at i n written = nat_le at i && (nat_lt i n && same body written)

abbrev may : Call → World → Bool
may (host_hear byte i) w = fits (host_passes byte w) w.dn_at i (length w.dn) (answer_body (answer_at w i))
may (tnc_hear size byte i) w = fits (tnc_passes size byte w) w.up_at i (length w.up) (request_body (request_at w i))
may c w = true

fits_is : (o : Option (List ℕ)) (at i n : ℕ) (written : List ℕ) → fits o at i n written ≡ true → (body : List ℕ) → o ≡ Some body → (at ≤ i) × (i < n) × (body ≡ written)
fits_is None at i n written is body e = absurd (cc)
fits_is (Some b) at i n written is body e =
    let same_body : b ≡ body = cc in
    let p = and_parts (nat_le at i) (nat_lt i n && same b written) is in
    let q = and_parts (nat_lt i n) (same b written) p.1 in
    (leb-true at i p.0, ltb-true i n q.0, sym same_body ∙ same_is b written q.1)

may_is : (c : Call) (w : World) → may c w ≡ true → Allowed c w
may_is (host_open size) w is = tt
may_is (host_step size) w is = tt
may_is (host_timer size) w is = tt
may_is (host_hear byte i) w is = fits_is (host_passes byte w) w.dn_at i (length w.dn) (answer_body (answer_at w i)) is
may_is (host_submit c b) w is = tt
may_is (host_submit_again c n b) w is = tt
may_is (host_collect c size) w is = tt
may_is (tnc_hear size byte i) w is = fits_is (tnc_passes size byte w) w.up_at i (length w.up) (request_body (request_at w i)) is
may_is (tnc_submit c b) w is = tt
may_is (tnc_collect c size) w is = tt

abbrev may_all : List Call → World → Bool
may_all [] w = true
may_all (c ∷ cs) w = may c w && may_all cs (act c w)

reaches : {setting : ℕ} {l : Limits} (cs : List Call) (w : World) → Run setting l w → may_all cs w ≡ true → Run setting l (after_calls cs w)
reaches [] w r is = r
reaches (c ∷ cs) w r is = let p = and_parts (may c w) (may_all cs (act c w)) is in reaches cs (act c w) (after r c (may_is c w p.0)) p.1

-- THE RUN

allowed : may_all calls (begin 0 limits) ≡ true
unfolding extended step_of eight waiting_to lowest_below waiting_below
allowed = refl

pub run_case_holds : RunCase
unfolding extended step_of eight waiting_to lowest_below waiting_below
run_case_holds = record {
  run = reaches calls (begin 0 limits) start allowed;
  timed = refl;
  fallen = refl;
  opened = refl;
  then_idle = refl;
  one_spare = refl;
  stale = refl;
  still_sent = refl;
  none_spare = refl;
  taken = refl;
  confirms = refl;
  named = refl;
  at_rest = refl;
  collected = refl;
}
