-- Each call that is made goes as its own clauses say.
use Rattle.std.proofs.Common.{ℕ, sym, subst, ap₂}
use Rattle.host.specs.Side as host_sides
use Rattle.tnc.specs.Side as tnc_sides
use Rattle.link.specs.declared.event.Event.TheVariants as event
use Rattle.link.specs.Played.{Both, One}
use Rattle.link.proofs.Ones.{host_goes, tnc_goes, wrote, heard, given, answered, handed}
use Rattle.link.proofs.pair.Ends.make.Goals as goal

pub returns-in-HostOpen-clause-one : goal.returns-in-HostOpen-clause-one
returns-in-HostOpen-clause-one g c =
    let out = g.A.Store.meaning c.args.stores.now.host_out in
    let inn = g.B.Store.meaning c.args.stores.now.host_in in
    record { answers = c.open.ensures.answer; leaves = wrote c.args.self.now.host _ _ out inn out inn c.args.wire.now _ _ _ (c.open.ensures.after out inn); law = host_goes _ _ _ _ _ _ _ (λ i. c.open.ensures.law out inn) }

pub returns-in-HostStep-clause-one : goal.returns-in-HostStep-clause-one
returns-in-HostStep-clause-one g c =
    let out = g.A.Store.meaning c.args.stores.now.host_out in
    let inn = g.B.Store.meaning c.args.stores.now.host_in in
    record { answers = c.step.ensures.answer; leaves = wrote c.args.self.now.host _ _ out inn out inn c.args.wire.now _ _ _ (c.step.ensures.after inn); law = host_goes _ _ _ _ _ _ _ (λ i. c.step.ensures.law inn) }

pub returns-in-HostTimer-clause-one : goal.returns-in-HostTimer-clause-one
returns-in-HostTimer-clause-one g c =
    let out = g.A.Store.meaning c.args.stores.now.host_out in
    let inn = g.B.Store.meaning c.args.stores.now.host_in in
    record { answers = c.timer.ensures.answer; leaves = wrote c.args.self.now.host _ _ out inn _ inn c.args.wire.now _ _ _ (c.timer.ensures.after inn); law = host_goes _ _ _ _ _ _ _ (λ i. c.timer.ensures.law inn) }

pub returns-in-HostHear-clause-one : goal.returns-in-HostHear-clause-one
returns-in-HostHear-clause-one g c =
    let out = g.A.Store.meaning c.args.stores.now.host_out in
    let inn = g.B.Store.meaning c.args.stores.now.host_in in
    record { answers = c.hear.ensures.answer; leaves = heard c.args.self.now.host c.hear.new.self _ out inn _ _ _ _ c.in-HostHear.byte _ c.hear.ensures.after c.hear.ensures.ear; law = host_goes _ _ _ _ _ _ _ c.hear.ensures.law }

pub returns-in-HostSubmit-clause-one : goal.returns-in-HostSubmit-clause-one
returns-in-HostSubmit-clause-one g c =
    let out = g.A.Store.meaning c.args.stores.now.host_out in
    let inn = g.B.Store.meaning c.args.stores.now.host_in in
    record { answers = c.submit.ensures.answer; leaves = given c.args.self.now.host c.submit.new.self _ out inn _ inn _ _ c.in-HostSubmit.channel c.in-HostSubmit.bytes.now c.submit.ensures.after c.submit.ensures.ear c.submit.ensures.out; law = host_goes _ _ _ _ _ _ _ (λ i. c.submit.ensures.law inn) }

pub returns-in-HostCollect-clause-one : goal.returns-in-HostCollect-clause-one
returns-in-HostCollect-clause-one g c =
    let out = g.A.Store.meaning c.args.stores.now.host_out in
    let t = tnc_sides.side c.args.self.now.tnc (g.C.Store.meaning c.args.stores.now.tnc_out) (g.D.Store.meaning c.args.stores.now.tnc_in) in
    record { answers = c.collect.ensures.answer; leaves = ap₂ (λ i b. record { host = host_sides.side c.args.self.now.host out i; tnc = t; wire = c.args.wire.now; block = b }) c.collect.ensures.inn c.collect.ensures.buffer; law = host_goes _ _ _ _ _ _ _ (λ i. c.collect.ensures.law out) }

pub returns-in-TncHear-clause-one : goal.returns-in-TncHear-clause-one
returns-in-TncHear-clause-one g c =
    let out = g.C.Store.meaning c.args.stores.now.tnc_out in
    let inn = g.D.Store.meaning c.args.stores.now.tnc_in in
    let call = c.hear-in-TncHear in
    record { answers = call.ensures.answer; leaves = answered c.args.self.now.tnc call.new.self _ out inn _ _ c.args.wire.now _ c.in-TncHear.byte _ _ call.ensures.after call.ensures.ear; law = tnc_goes _ _ _ _ _ _ _ call.ensures.law }

pub returns-in-TncSubmit-clause-one : goal.returns-in-TncSubmit-clause-one
returns-in-TncSubmit-clause-one g c =
    let out = g.C.Store.meaning c.args.stores.now.tnc_out in
    let inn = g.D.Store.meaning c.args.stores.now.tnc_in in
    let call = c.submit-in-TncSubmit in
    record { answers = call.ensures.answer; leaves = handed c.args.self.now.tnc call.new.self _ out inn _ inn _ _ c.in-TncSubmit.channel c.in-TncSubmit.bytes.now call.ensures.after call.ensures.ear call.ensures.out; law = tnc_goes _ _ _ _ _ _ _ (λ i. call.ensures.law inn) }

pub returns-in-TncCollect-clause-one : goal.returns-in-TncCollect-clause-one
returns-in-TncCollect-clause-one g c =
    let out = g.C.Store.meaning c.args.stores.now.tnc_out in
    let h = host_sides.side c.args.self.now.host (g.A.Store.meaning c.args.stores.now.host_out) (g.B.Store.meaning c.args.stores.now.host_in) in
    let call = c.collect-in-TncCollect in
    record { answers = call.ensures.answer; leaves = ap₂ (λ i b. record { host = h; tnc = tnc_sides.side c.args.self.now.tnc out i; wire = c.args.wire.now; block = b }) call.ensures.inn call.ensures.buffer; law = tnc_goes _ _ _ _ _ _ _ (λ i. call.ensures.law out) }

pub returns-in-Some-clause-one : goal.returns-in-Some-clause-one
returns-in-Some-clause-one g c =
    let out = g.A.Store.meaning c.args.stores.now.host_out in
    let inn = g.B.Store.meaning c.args.stores.now.host_in in
    let t = tnc_sides.side c.args.self.now.tnc (g.C.Store.meaning c.args.stores.now.tnc_out) (g.D.Store.meaning c.args.stores.now.tnc_in) in
    let s : Both = record { host = host_sides.side c.args.self.now.host out inn; tnc = t; wire = c.args.wire.now; block = c.args.block.now } in
    let n : Both = record { host = host_sides.side c.submit_again.new.self (g.A.Store.meaning c.submit_again.new.out) inn; tnc = t; wire = c.args.wire.now; block = c.args.block.now } in
    let b = c.in-HostSubmitAgain.bytes in
    let made : One s (event.HostSubmitAgain c.in-Some.note.channel c.in-Some.note.number b c.submit_again.result) n =
    record { answers = c.submit_again.ensures.answer; leaves = given c.args.self.now.host c.submit_again.new.self _ out inn _ inn _ _ c.in-Some.note.channel b.now c.submit_again.ensures.after c.submit_again.ensures.ear c.submit_again.ensures.out; law = host_goes _ _ _ _ _ _ _ (λ i. c.submit_again.ensures.law inn) } in
    subst (λ (x : ℕ). One s (event.HostSubmitAgain x c.number.result b c.submit_again.result) n) (sym c.channel.ensures)
    (subst (λ (y : ℕ). One s (event.HostSubmitAgain c.in-Some.note.channel y b c.submit_again.result) n) (sym c.number.ensures) made)
