-- The cases, each from the rules: most of them by computing.
use Rattle.std.proofs.Common.{◌≡◌, ℕ, ◌-◌, List, [], ◌∷◌, ◌++◌, length, Ok, Err, Result, refl, ap, arith}
use Rattle.fcs.specs.Fcs.{check_of}
use Rattle.frame.specs.declared.form.Direction.{Direction}
use Rattle.frame.specs.declared.form.Direction.TheVariants.{FromHost, FromTnc}
use Rattle.frame.specs.declared.form.Form.TheVariants as form
use Rattle.wire.specs.declared.writer.Refusal.{Refusal}
use Rattle.wire.specs.declared.writer.Refusal.TheVariants.{ShortWire, BadPayload}
use Rattle.frame.specs.Frame.{Frame, Body, body_of}
use Rattle.wire.specs.Wire.{stuff, stuffed, wire_of, Writes}
use Rattle.reader.specs.declared.state.Part.TheVariants.{Code}
use Rattle.reader.specs.declared.state.State.TheVariants.{Inside}
use Rattle.reader.specs.declared.fault.Reason.TheVariants.{StrayMark}
use Rattle.reader.specs.Read.{at, fresh, fault_of, hears}
use Rattle.reader.specs.Laws.{after}
use Rattle.cases.specs.Proved.{information, ProvedCases}
use Rattle.cases.proofs.StoreCases.{store_cases_hold}
use Rattle.cases.proofs.EndCases.{end_cases_hold}
use Rattle.cases.proofs.RunCase.{run_case_holds}

goes : (d : Direction) (f : Frame) (body before buffer : List ℕ) (r : Result ℕ Refusal) → Body d body f → Writes d f before buffer r → length before ≡ 521 → (n : ℕ) × (r ≡ Ok n)
goes d f body before buffer (Ok n) b w e = (n, refl)
goes d f body before buffer (Err ShortWire) b w e = absurd (omega (arith, w.0))
goes d f body before buffer (Err BadPayload) b w e = absurd (w.1 body b)

refused : (d : Direction) (f : Frame) (before buffer : List ℕ) (r : Result ℕ Refusal) → Writes d f before buffer r → length before ≡ 520 → (r ≡ Err ShortWire) × (buffer ≡ before)
refused d f before buffer (Ok n) w e = absurd (omega (arith, w.wide))
refused d f before buffer (Err ShortWire) w e = (refl, w.1)
refused d f before buffer (Err BadPayload) w e = absurd (omega (arith, w.0))

third : (d : Direction) → after (fresh d) (170 ∷ 170 ∷ 170 ∷ 33 ∷ []) ≡ at d (Inside Code) (33 ∷ []) 1
third FromHost = refl
third FromTnc = refl

stray : (d : Direction) → (hears (after (fresh d) (170 ∷ 170 ∷ 33 ∷ 0 ∷ 170 ∷ [])) 5).says ≡ Err (fault_of StrayMark 4)
stray FromHost = refl
stray FromTnc = refl

count : (block : List ℕ) → length block ≡ 171 → (rest : List ℕ) × (wire_of (body_of form.Counted (information block)) ≡ 170 ∷ 170 ∷ 33 ∷ 0 ∷ 170 ∷ 0 ∷ rest)
unfolding wire_of stuffed
count block e =
    let c : length block - 1 ≡ 170 = omega arith in
    let rest = stuffed (block ++ check_of (body_of form.Counted (information block))) in
    (rest, ap (λ (n : ℕ). 170 ∷ 170 ∷ 33 ∷ 0 ∷ (stuff n ++ rest)) c)

pub proved_cases_hold : ProvedCases
proved_cases_hold = record {
  wire_521 = goes;
  wire_520 = refused;
  number_14 = refl;
  third_mark = third;
  stuffed_count = count;
  stray_mark = stray;
  number_1 = refl;
  code_87 = (refl, refl, refl);
  empty_list_body = refl;
  stores = store_cases_hold;
  ends = end_cases_hold;
  run = run_case_holds;
}
