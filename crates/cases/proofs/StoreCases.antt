-- The cases of the stores, each from what put answers.
use Rattle.std.proofs.Common.{◌≡◌, ℕ, ◌<◌, ◌≤◌, Bool, ◌||◌, ltb, length, Err, refl, ap, ◌∙◌, arith}
use Rattle.std.proofs.lemmas.Bool.{cond-true, cond-false, le-ltb, lt-ltb, ne_eqb}
use Rattle.store.specs.declared.refusal.Refusal.TheVariants.{BadLength}
use Rattle.store.specs.Meaning.{Block, Meaning}
use Rattle.store.specs.Rules.{if_granted, put_answer, put_after, joined}
use Rattle.store.proofs.Ways.{put_goes}
use Rattle.strip.specs.Records.{limit_of}
use Rattle.cases.specs.StoreCases.{StoreCases}

too_long : (m : Meaning) (c : ℕ) (b : Block) → c ≤ 63 → length b.bytes ≡ 257 → (put_answer m c b ≡ Err BadLength) × (put_after m c b ≡ m)
too_long m c b low long =
    let n : 256 < length b.bytes = omega arith in
    let a : put_answer m c b ≡ Err BadLength =
    cond-false _ _ _ (le-ltb 63 c low)
    ∙ cond-true _ _ _ (ap (λ (t : Bool). t || ltb 256 (length b.bytes)) (ne_eqb (length b.bytes) 0 (omega arith)) ∙ lt-ltb 256 (length b.bytes) n) in
    (a, ap (λ r. if_granted r (joined m c b) m) a)

pub store_cases_hold : StoreCases
store_cases_hold = record {
  block_256 = λ m c b low room long. (put_goes m c b low (omega arith) (omega arith) room).0;
  block_257 = too_long;
  number_11 = refl;
  channel_63 = λ m b some short room. (put_goes m 63 b (omega arith) (omega arith) short room).0;
  channel_64 = λ m b. (refl, refl);
  number_10 = refl;
  strip_516 = λ s e. ap limit_of e;
  strip_515 = λ s e. ap limit_of e;
}
