-- Where the submission is refused, the note stands again where it stood.
use Rattle.std.proofs.Common.{rules, ◌≡◌, sym, ap, ◌∙◌, slice_get, option_and_then, if◌then◌else◌}
use Rattle.replay.specs.Notes.{unspent_of, without}
use Rattle.replay.proofs.Again.{was_refused, handed_back, taken, as_before}
use Rattle.replay.proofs.session.Session.host_again.Goals as goal

pub returns-in-Err-clause-notes : goal.returns-in-Err-clause-notes
returns-in-Err-clause-notes c =
    let old = c.args.notes.now in
    let k = c.take-number.result in
    let answer = sym c.submit_again.ensures.answer ∙ c.in-Err.is in
    let back : c.put_back.new.self.kept.items ≡ old.kept.items = as_before old.kept.items c.take-number.new.self.kept.items _
    c.in-Some.place k c.in-Err.field-0.note c.take-number.ensures.value
    (handed_back _ k.note c.in-Err.field-0 answer)
    c.take-number.ensures.kept c.put_back.ensures.kept in
    let same : unspent_of c.put_back.new.self ≡ unspent_of old = search rules in
    taken _ k _ _
    (c.place.ensures.note ∙ ap (option_and_then (slice_get old.kept.items)) c.in-Some.is ∙ c.take-number.ensures.value)
    (same ∙ sym (ap (λ b. if b then without c.args.number (unspent_of old) else unspent_of old) (was_refused _ k.note c.in-Err.field-0 answer)))
