-- The number of each of step's choices.
use Rattle.std.specs.Prelude.{ℕ}
use Rattle.host.specs.declared.answer.StepRule.{StepRule}
use Rattle.host.specs.declared.answer.StepRule.TheVariants.{PollAfterRefusal, ChannelPoll, Block, GeneralPoll}

abbrev pub step_rule_number : StepRule → ℕ
step_rule_number PollAfterRefusal = 1
step_rule_number ChannelPoll = 2
step_rule_number Block = 3
step_rule_number GeneralPoll = 4
