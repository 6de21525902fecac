-- A poll list as it is read is the list that the rules take.
use Rattle.std.proofs.Common.{◌≡◌, if◌then◌else◌, ℕ, pred, ◌+◌, List, [], ◌∷◌, map, sym, refl, ap, ◌∙◌, arith}
use Rattle.std.proofs.lemmas.Bool.{cond-true, cond-false, false_from_ne_true}
use Rattle.poll.specs.List.{GoodList, polled}
use Rattle.poll.specs.declared.list.PollList.{PollList}
use Rattle.store.specs.Meaning.{Meaning}
use Rattle.ends.specs.Frames.{Answer, is_good, listed_channels}
use Rattle.ends.specs.Host.{HostRule, list_in}
use Rattle.ends.proofs.Fit.{is_good_holds, good_is}
use Rattle.host.specs.Rule.{Carries}

same_list : (xs : List ℕ) → listed_channels (map (λ (c : ℕ). c + 1) xs) ≡ xs
same_list [] = refl
same_list (x ∷ xs) =
    let e : pred (x + 1) ≡ x = omega arith in
    ap (λ (y : ℕ). y ∷ listed_channels (map (λ (c : ℕ). c + 1) xs)) e ∙ ap (λ (l : List ℕ). x ∷ l) (same_list xs)

list_is : (text : List ℕ) (l : PollList) → map (λ (c : ℕ). c + 1) (polled l) ≡ text → polled l ≡ listed_channels text
list_is text l e = sym (same_list (polled l)) ∙ ap listed_channels e

-- the list of an answer that carries the text
pub list_of : (text : List ℕ) (l : PollList) → map (λ (c : ℕ). c + 1) (polled l) ≡ text → (a : Answer) → Carries text a → polled l ≡ list_in a.reply
list_of text l e a carries = list_is text l e ∙ sym (ap list_in carries)

-- the rule of a good list, and of one that is not
module _ (inn : Meaning) (text : List ℕ) (good bad : HostRule) where
  pub by_good : GoodList text → good ≡ (if is_good text then good else bad)
  by_good g = sym (cond-true _ _ _ (is_good_holds text g))

  pub by_bad : (GoodList text → ⊥) → bad ≡ (if is_good text then good else bad)
  by_bad none = sym (cond-false _ _ _ (false_from_ne_true (is_good text) (λ e. none (good_is text e))))
