-- What a TNC's link is, by the model that its rules speak of.
use Rattle.std.specs.Prelude.{Bool, true, false, Some, None, Option}
use Rattle.ends.specs.Counts.{submitted_of, gone_of}
use Rattle.ends.specs.Frames.{Answer}
use Rattle.ends.specs.Tnc as model
use Rattle.tnc.specs.declared.held.Held.{Held}
use Rattle.tnc.specs.declared.tnc.Link.{Link}
use Rattle.tnc.specs.Held.{held_answer}

abbrev pub ready_by : Option Held → Bool
ready_by None = false
ready_by (Some h) = true

abbrev pub last_by : Option Held → Bool
last_by None = false
last_by (Some h) = h.toggle

abbrev pub answer_by : Option Held → Answer
answer_by None = model.no_answer
answer_by (Some h) = held_answer h

abbrev pub tnc_of : Link → model.Tnc
tnc_of l = record {
  ready = ready_by l.held;
  last = last_by l.held;
  held = answer_by l.held;
  submitted = submitted_of l.counts;
  gone = gone_of l.counts;
}
