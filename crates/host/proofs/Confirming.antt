-- A block that is confirmed: what is named, and what is counted.
use Rattle.std.proofs.Common.{◌≡◌, ℕ, Bool, true, false, List, sym, refl, ap, ◌∙◌}
use Rattle.ends.specs.Frames.{Cargo, empty, holds}
use Rattle.ends.specs.Blocks.{Word, silent, confirms, confirm_of, changed, one_more_counted}
use Rattle.ends.specs.Host.{Host, aboard, aboard_on, confirm_word, taken}

pub confirm_word_is : (h : Host) (k : ℕ) → aboard_on h.state ≡ k → (aboard h.state ≡ empty → ⊥) → confirm_word h ≡ confirms k (one_more_counted (h.gone k))
confirm_word_is h k on some = go (aboard h.state) refl ∙ ap (λ (x : ℕ). confirms x (one_more_counted (h.gone x))) on
  where
    go : (y : Cargo) → aboard h.state ≡ y → confirm_of (aboard_on h.state) (one_more_counted (h.gone (aboard_on h.state))) y ≡ confirms (aboard_on h.state) (one_more_counted (h.gone (aboard_on h.state)))
    go empty e = absurd (some e)
    go (holds b) e = refl

abbrev pub with_counts : Host → (ℕ → ℕ) → (ℕ → ℕ) → Host
with_counts h submitted gone = record { setting = h.setting; state = h.state; generation = h.generation; last = h.last; spare = h.spare; resets = h.resets; poll_list = h.poll_list; block_refused = h.block_refused; submitted = submitted; gone = gone }

pub counted : (before after : Host) (list : List ℕ) (toggle : Bool) (submitted gone : ℕ → ℕ) (k : ℕ) → after ≡ taken before list false silent toggle → submitted ≡ after.submitted → gone ≡ changed true k one_more_counted after.gone → aboard_on before.state ≡ k → (aboard before.state ≡ empty → ⊥) → with_counts after submitted gone ≡ taken before list false (confirm_word before) toggle
counted before after list toggle submitted gone k is s g on some =
    ap (λ (x : ℕ → ℕ). with_counts after x gone) s
    ∙ ap (λ (x : ℕ → ℕ). with_counts after after.submitted x) g
    ∙ ap (λ (x : Host). with_counts x x.submitted (changed true k one_more_counted x.gone)) is
    ∙ ap (λ (w : Word). taken before list false w toggle) (sym (confirm_word_is before k on some))
