-- A confirmed block is named, leaves its store and counts as gone.
use Rattle.std.proofs.Common.{◌≡◌, ℕ, Ok, sym, refl, ap, ◌∙◌}
use Rattle.store.specs.Rules.{drop_after}
use Rattle.ends.specs.Blocks.{Word, leaves, confirms, one_more_counted}
use Rattle.ends.specs.Host as model
use Rattle.host.specs.Model.{host_of}
use Rattle.host.specs.Answers.{confirmed_by}
use Rattle.host.proofs.Confirming.{confirm_word_is, counted}
use Rattle.host.proofs.host.Link.confirm.Goals as goal

pub returns : goal.returns
returns g c =
    let h = host_of c.args.self.now in
    let k = c.args.channel.number in
    let named = confirm_word_is h k c.requires.0 c.requires.1 in
    let number : c.count_gone-number.result ≡ one_more_counted (h.gone k) = c.count_gone-number.ensures.value ∙ ap (λ (x : model.Host). one_more_counted (x.gone k)) c.take.ensures in
    let word : confirms c.number-2.result c.count_gone-number.result ≡ model.confirm_word h = ap (λ (x : ℕ). confirms x c.count_gone-number.result) c.number-2.ensures.value ∙ ap (λ (x : ℕ). confirms k x) number ∙ sym named in
    λ inn ch reset reply brings. record {
      host_is = counted h (host_of c.take.new.self) h.poll_list c.args.toggle _ _ k c.take.ensures c.count_gone-number.ensures.submitted c.count_gone-number.ensures.gone c.requires.0 c.requires.1;
      out_is = c.drop_first.ensures.after ∙ ap (λ (x : ℕ). drop_after (g.O.Store.meaning c.args.out.now) x) c.number.ensures.value ∙ ap (λ (w : Word). leaves w (g.O.Store.meaning c.args.out.now)) (sym named);
      inn_is = refl;
      word_is = word;
      answer_is = ap (λ (w : Word). Ok (confirmed_by w)) word;
    }
