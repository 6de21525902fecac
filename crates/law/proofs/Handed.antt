-- Blocks handed over at an end: when they were, and what the history then has, by what the call answers.
use Rattle.std.proofs.Common.{◌≡◌, ℕ, true, Ok, Err, Result, List, [], ◌∷◌, length, take, drop, refl, ap, ap₂, ◌∙◌}
use Rattle.std.specs.Result.{is_ok, result_unwrap_or}
use Rattle.std.proofs.lemmas.List.{take_at}
use Rattle.store.specs.declared.refusal.Refusal as stores
use Rattle.store.specs.Meaning.{Block, plain}
use Rattle.store.specs.Rules.{length_of, written_over}
use Rattle.store.specs.Calls.{shown_by}
use Rattle.ends.specs.declared.refusal.Refusal.{Refusal}
use Rattle.ends.specs.Blocks.{granted, whole}
use Rattle.law.specs.Runs.{Way, submitting, collecting}

pub is_granted : {X E : Type 0} (r : Result X E) → is_ok r ≡ granted r
is_granted (Ok x) = refl
is_granted (Err e) = refl

-- submitted, where the answer is Ok
pub submitted : (r s : Result ℕ Refusal) (c : ℕ) (b : Block) → r ≡ s → submitting (is_ok r) c b ≡ submitting (granted s) c b
submitted r s c b is = ap (λ g. submitting g c b) (ap is_ok is ∙ is_granted s)

-- collected: where the answer is Ok, what stands at the start of the buffer
abbrev collected_by : ℕ → Result ℕ Refusal → List ℕ → Way → Way
collected_by c r buffer = collecting (is_ok r) c (plain (take (result_unwrap_or r 0) buffer) ∷ [])

source : (s : Result Block stores.Refusal) (c : ℕ) (old : List ℕ) → collected_by c (whole (length_of s)) (written_over s old) ≡ collecting (granted s) c (shown_by s)
source (Ok b) c old = ap (λ bs. collecting true c (plain bs ∷ [])) (take_at b.bytes (drop (length b.bytes) old) (length b.bytes) refl)
source (Err e) c old = refl

pub collected : (s : Result Block stores.Refusal) (r : Result ℕ Refusal) (c : ℕ) (old new : List ℕ) → r ≡ whole (length_of s) → new ≡ written_over s old
    → collecting (is_ok r) c (plain (take (result_unwrap_or r 0) new) ∷ []) ≡ collecting (granted s) c (shown_by s)
collected s r c old new is buffer = ap₂ (collected_by c) is buffer ∙ source s c old
