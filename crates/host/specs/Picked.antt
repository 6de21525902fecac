-- What step picks: the lowest channel with a block, and the frame that goes.
use Rattle.std.specs.Prelude.{◌≡◌, ℕ, ◌≤◌, false, not, List, ◌∷◌, length, Some, None, Option}
use Rattle.poll.specs.Channel.{channels}
use Rattle.poll.specs.declared.channel.Channel.{Channel}
use Rattle.store.specs.Meaning.{Block, Meaning}
use Rattle.ends.specs.Host as model
use Rattle.ends.specs.Host.{lowest_below, general_poll, send_block_of, pick, next_request}
use Rattle.host.specs.declared.host.stepping.Picked.{Picked}
use Rattle.host.specs.Asked.{asked_request}
use Rattle.host.specs.Answers.{step_rule_of}

-- the lowest channel that has a block, if one has
abbrev pub LowestIs : (ℕ → List Block) → Option Channel → Type 0
LowestIs w None = lowest_below channels w ≡ general_poll
LowestIs w (Some c) = (1 ≤ length (w c.number)) × ((b : Block) (bs : List Block) → w c.number ≡ b ∷ bs → lowest_below channels w ≡ send_block_of c.number b)

-- the rule and the frame are those that the host's rules say
pub record PickedBy (h : model.Host) (out : Meaning) (p : Picked) : Type 0 where
  pub rule : p.rule ≡ step_rule_of (pick h.block_refused h.poll_list out.waiting)
  pub asks : asked_request p.asked false (not h.last) ≡ next_request h out
