-- Frames that passed, against those that the line brought.
use Rattle.std.specs.Prelude.{ℕ, List, ◌++◌, All, IsTrue, if◌then◌else◌, codes, decimal}
use Rattle.std.specs.List.Sorted.{IsNonDecreasingBy}
use Rattle.order.specs.declared.line_rule.Passed.{Passed}
use Rattle.order.specs.declared.line_rule.LineRule.{LineRule}

-- each was brought whole, and they passed in the order of writing
abbrev pub KeepsLineRule : List Passed → Type 0
KeepsLineRule frames =
    All (λ p. IsTrue p.is_whole) frames × IsNonDecreasingBy (λ p. p.place) frames

-- how it is told
abbrev pub kept_words : ℕ → ℕ → List ℕ
kept_words at_modem at_terminal = codes "The line kept its rule: every frame that passed, "
    ++ (decimal at_modem ++ (codes " at the modem and " ++ (decimal at_terminal
    ++ codes " at the terminal, was one that it had just brought whole, in the order of writing.")))

abbrev pub line_rule_words : LineRule → List ℕ
line_rule_words r = if r.is_kept
    then kept_words r.at_modem r.at_terminal
    else (codes "The line broke its rule: a frame passed that it had not just brought whole, "
    ++ codes "in the order of writing.")
