-- While its repeats are below the setting, the frame on its way is sent once more.
use Rattle.std.proofs.Common.{◌≡◌, length, rules, sym, subst}
use Rattle.ends.specs.Host.{timer_rule, sends_again}
use Rattle.host.specs.Model.{host_of}
use Rattle.host.specs.Left.{Leaves}
use Rattle.host.proofs.Lengths.{sent_once_more}
use Rattle.host.proofs.host.Link.timer.Goals as goal

pub returns-clause-after : goal.returns-clause-after
returns-clause-after g c = λ inn.
    let h = host_of c.args.self.now in
    let out = g.O.Store.meaning c.args.out.now in
    let size = length c.args.wire.now in
    let rule : timer_rule h.setting h.state ≡ sends_again = search rules in
    subst (λ s. Leaves s (host_of c.send_again.new.self) out inn c.args.wire.now c.send_again.new.wire)
    (sym (sent_once_more size h out inn c.if-wire-lt-WIRE.false rule)) (c.send_again.ensures.after out inn)
