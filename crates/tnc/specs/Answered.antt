-- An answer as code holds it, with its rule.
use Rattle.std.specs.Prelude.{◌≡◌, ℕ}
use Rattle.store.specs.Meaning.{Meaning}
use Rattle.ends.specs.Frames.{Request, Reply, cargo_of}
use Rattle.ends.specs.Host.{stores_in}
use Rattle.ends.specs.Tnc.{has_place, reply_to}
use Rattle.tnc.specs.declared.answer.Rule.{Rule}
use Rattle.tnc.specs.declared.tnc.answering.Answered.{Answered}
use Rattle.tnc.specs.Held.{given_channel, given_reply}
use Rattle.tnc.specs.Answers.{accept_rule}

-- it has this channel, this rule and this reply
pub record AnswersOn (c : ℕ) (rule : Rule) (reply : Reply) (a : Answered) : Type 0 where
  pub channel_is : given_channel a.given ≡ c
  pub rule_is : a.rule ≡ rule
  pub reply_is : given_reply a.given ≡ reply

-- it answers an accepted frame; out: the outgoing store once the held block has left it
pub record AnswersTo (q : Request) (out inn inn_after : Meaning) (a : Answered) : Type 0 where
  pub channel_is : given_channel a.given ≡ q.channel
  pub rule_is : a.rule ≡ accept_rule q.load q.channel (has_place inn q.channel (cargo_of q.load)) (out.waiting q.channel)
  pub reply_is : given_reply a.given ≡ reply_to q.load q.channel (has_place inn q.channel (cargo_of q.load)) out
  pub inn_is : inn_after ≡ stores_in q.channel (cargo_of q.load) inn
