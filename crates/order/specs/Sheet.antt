-- What the sheet at the end of a run says, and its words.
use Rattle.std.specs.Prelude.{◌≡◌, ℕ, ◌+◌, ◌-◌, ◌^◌, min, List, ◌++◌, length, take, drop, count_by}
use Rattle.std.specs.Prelude.{codes, decimal, ◌↔◌, IsTrue, Vec, vec_items}
use Rattle.std.specs.List.{flat_map}
use Rattle.order.specs.declared.outcome.Outcome.{Outcome}
use Rattle.order.specs.declared.outcome.Outcome.TheVariants.{Waiting, Confirmed, Doubtful}
use Rattle.order.specs.declared.summary.OrderCame.{OrderCame}
use Rattle.order.specs.declared.summary.TextsCame.{TextsCame}
use Rattle.order.specs.declared.words.Kind.TheVariants.{Block}
use Rattle.order.specs.declared.sheet.Way.{Way}
use Rattle.order.specs.declared.sheet.Sent.{Sent}
use Rattle.order.specs.declared.sheet.WayCounts.{WayCounts}
use Rattle.order.specs.declared.sheet.OrderPart.{OrderPart}
use Rattle.order.specs.declared.sheet.Sheet.{Sheet}
use Rattle.order.specs.declared.sheet.WayWords.{WayWords}
use Rattle.order.specs.declared.sheet.WayWords.TheVariants.{ToModem, ToTerminal}
use Rattle.order.specs.Blocks.{blocks_of, bytes_of}
use Rattle.order.specs.Comparison.{comparison, copies}
use Rattle.order.specs.LineRule.{KeepsLineRule, line_rule_words}
use Rattle.order.specs.Outcome.{is_outcome}
use Rattle.order.specs.Summary.{order_words, texts_words}
use Rattle.order.specs.Words.{counted, words_of}

-- how many submissions had an outcome
abbrev pub with_outcome : Outcome → Way → ℕ
with_outcome o w = count_by (is_outcome o) w.outcomes.now

abbrev pub way_counts : Way → WayCounts
way_counts w = record {
  submitted = length w.outcomes.now;
  confirmed = with_outcome Confirmed w;
  doubtful = with_outcome Doubtful w;
  waiting = with_outcome Waiting w;
  collected = length w.collected.now;
  there = w.there;
}

-- the order against what came before the farewell was submitted; what came after it is the
-- farewell, or strange
abbrev pub order_part : {Z : Type 0} → Sent → List (Vec ℕ Z) → ℕ → OrderPart
order_part s collected before_farewell =
    let after = drop before_farewell collected in
    let came = comparison (blocks_of s.order.now) (bytes_of (take before_farewell collected)) in
    let farewells = copies s.farewell.now (bytes_of after) in
    record {
      came = record { came = came; len = length s.order.now };
      farewells = farewells;
      strange = came.strange + (length after - farewells);
    }

-- how many bytes blocks have together
abbrev pub bytes_count : {Z : Type 0} → List (Vec ℕ Z) → ℕ
bytes_count blocks = length (flat_map vec_items blocks)

abbrev pub texts_part : {Y Z : Type 0} → List (Vec ℕ Y) → List (Vec ℕ Z) → TextsCame
texts_part texts collected = record {
  came = comparison (bytes_of texts) (bytes_of collected);
  len = bytes_count collected;
}

pub record IsSheetOf (sent : Sent) (m t : Way) (before_farewell : ℕ) (s : Sheet) : Type 0 where
  pub to_modem : s.to_modem ≡ way_counts m
  pub to_terminal : s.to_terminal ≡ way_counts t
  pub order : s.order ≡ order_part sent m.collected.now before_farewell
  pub texts : s.texts ≡ texts_part sent.texts.now t.collected.now
  pub kept : IsTrue s.rule.is_kept ↔ (KeepsLineRule m.passed.now × KeepsLineRule t.passed.now)
  pub at_modem : s.rule.at_modem ≡ length m.passed.now
  pub at_terminal : s.rule.at_terminal ≡ length t.passed.now

-- how it is told
abbrev pub block_words : ℕ → List ℕ
block_words n = words_of (counted n Block)

abbrev pub gone_words : WayCounts → List ℕ
gone_words c = block_words c.submitted
    ++ (codes " submitted, " ++ (decimal c.confirmed
    ++ (codes " confirmed, " ++ (decimal c.doubtful
    ++ (codes " doubtful, " ++ (decimal c.waiting ++ codes " waiting."))))))

-- what was delivered was collected or waits there; so many are told at most
abbrev pub came_words : WayCounts → List ℕ
came_words c = block_words (min (c.collected + c.there) (2 ^ 64 - 1))
    ++ (codes " delivered, " ++ (decimal c.collected
    ++ (codes " collected, " ++ (decimal c.there ++ codes " waiting there."))))

abbrev pub way_words : WayWords → List ℕ
way_words (ToModem c) = codes "Terminal to modem: " ++ (gone_words c
    ++ (codes "\nTerminal to modem: " ++ came_words c))
way_words (ToTerminal c) = codes "Modem to terminal: " ++ (gone_words c
    ++ (codes "\nModem to terminal: " ++ came_words c))

abbrev pub order_part_words : OrderPart → List ℕ
order_part_words p = let c = p.came.came in
    codes "The order as collected, block by block: " ++ (decimal c.once
    ++ (codes " came once, " ++ (decimal c.lost
    ++ (codes " lost, " ++ (decimal c.doubled
    ++ (codes " doubled.\nFarewells collected: " ++ (decimal p.farewells
    ++ (codes ". Blocks changed or never submitted: " ++ (decimal p.strange
    ++ (codes ".\n" ++ order_words p.came))))))))))

abbrev pub sheet_words : Sheet → List ℕ
sheet_words s = way_words (ToModem s.to_modem)
    ++ (codes "\n" ++ (way_words (ToTerminal s.to_terminal)
    ++ (codes "\n" ++ (order_part_words s.order
    ++ (codes "\n" ++ (texts_words s.texts
    ++ (codes "\n" ++ line_rule_words s.rule)))))))
