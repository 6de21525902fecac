-- Which channels wait, by what a store counts.
use Rattle.std.proofs.Common.{◌≡◌, ℕ, ◌+◌, ◌<◌, ◌≤◌, Bool, ltb, List, [], ◌∷◌, ◌++◌, length, take, set, sym, refl, ap, ◌∙◌, add-one, arith}
use Rattle.std.proofs.lemmas.List.{take_more_set}
use Rattle.std.proofs.lemmas.Bool.{cond-false, le-ltb, lt-ltb}
use Rattle.poll.specs.Channel.{last_channel}
use Rattle.store.specs.Meaning.{Block, Meaning}
use Rattle.store.specs.Rules.{count_on}
use Rattle.ends.specs.Tnc.{is_some, waiting_to}

counts_some : (blocks : List Block) → ltb 0 (length blocks) ≡ is_some blocks
counts_some [] = refl
counts_some (b ∷ blocks) = lt-ltb 0 (length (b ∷ blocks)) (omega arith)

counted : (m : Meaning) (c : ℕ) → c ≤ last_channel → ltb 0 (count_on m c) ≡ is_some (m.waiting c)
counted m c low = ap (ltb 0) (cond-false _ _ _ (le-ltb last_channel c low)) ∙ counts_some (m.waiting c)

pub none_yet : (w : ℕ → List Block) → [] ≡ waiting_to 0 w
unfolding waiting_to
none_yet w = refl

-- one channel more
pub one_more : (m : Meaning) (marks : List Bool) (c : ℕ) → c < length marks → c ≤ last_channel → take c marks ≡ waiting_to c m.waiting → take (c + 1) (set marks c (ltb 0 (count_on m c))) ≡ waiting_to (c + 1) m.waiting
unfolding waiting_to
one_more m marks c h low e =
    take_more_set marks c (ltb 0 (count_on m c)) h
    ∙ ap (λ (l : List Bool). l ++ ltb 0 (count_on m c) ∷ []) e
    ∙ ap (λ (b : Bool). waiting_to c m.waiting ++ b ∷ []) (counted m c low)
    ∙ sym (ap (λ (k : ℕ). waiting_to k m.waiting) (add-one c))
