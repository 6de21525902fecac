-- The frame that passed is answered, and leaves what it asks for.
use Rattle.std.proofs.Common.{◌≡◌, Some, Ok, ap, ◌∙◌, rules, arith}
use Rattle.std.proofs.lemmas.Grind.{common_steps}
use Rattle.std.specs.Option.{option_map}
use Rattle.frame.specs.declared.form.Direction.TheVariants.{FromHost}
use Rattle.frame.specs.Head.{framed}
use Rattle.frame.specs.Kinds.{host_shows}
use Rattle.reader.specs.declared.state.Heard.TheVariants.{Frame}
use Rattle.reader.specs.Read.{hears, passed}
use Rattle.ends.specs.Ear.{heard_by}
use Rattle.ends.specs.Frames.{frame_read}
use Rattle.tnc.specs.Answers.{byte_word}
use Rattle.tnc.specs.Hear.{a_frame}
use Rattle.tnc.proofs.Hearing.{answered, named, left}
use Rattle.tnc.proofs.tnc.Tnc.hear_byte.Goals as goal

pub returns-in-Some-clause-answer : goal.returns-in-Some-clause-answer
returns-in-Some-clause-answer g c =
    let n = hears (heard_by c.args.self.now.ear) c.args.byte in
    let f = framed c.in-Some.head (host_shows c.in-Some.frame) in
    let says : n.says ≡ Ok Frame = search rules in
    let shows : Some f ≡ option_map (frame_read FromHost) (passed n.then) = search rules in
    let is : c.map.result ≡ a_frame c.hear-in-Some.result = grind (arith, common_steps) in
    is ∙ answered n says _ c.if-wire-lt-WIRE.false _ _ _ f shows _ c.of-request.ensures _ c.hear-in-Some.ensures.answer

pub returns-in-Some-clause-named : goal.returns-in-Some-clause-named
returns-in-Some-clause-named g c =
    let n = hears (heard_by c.args.self.now.ear) c.args.byte in
    let f = framed c.in-Some.head (host_shows c.in-Some.frame) in
    let says : n.says ≡ Ok Frame = search rules in
    let shows : Some f ≡ option_map (frame_read FromHost) (passed n.then) = search rules in
    let is : c.map.result ≡ a_frame c.hear-in-Some.result = grind (arith, common_steps) in
    ap byte_word is ∙ named n says _ c.if-wire-lt-WIRE.false _ _ _ f shows _ c.of-request.ensures _ c.hear-in-Some.ensures.answer

pub returns-in-Some-clause-after : goal.returns-in-Some-clause-after
returns-in-Some-clause-after g c =
    let n = hears (heard_by c.args.self.now.ear) c.args.byte in
    let f = framed c.in-Some.head (host_shows c.in-Some.frame) in
    let says : n.says ≡ Ok Frame = search rules in
    let shows : Some f ≡ option_map (frame_read FromHost) (passed n.then) = search rules in
    left n says _ c.if-wire-lt-WIRE.false _ _ _ f shows _ c.of-request.ensures _ _ _ _ _ c.hear-in-Some.ensures.after
