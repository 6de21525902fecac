-- The law of a world that has the invariant: the books of each way and channel, read as the law states them.
use Rattle.std.proofs.Common.{◌≡◌, ℕ, ◌≤◌, Bool, true, false, List, [], ◌++◌, sym, ⊎_elim, append-nil, arith}
use native.Mathlib.Decide.{ℕ_discrete}
use Rattle.poll.specs.Channel.{last_channel}
use Rattle.store.specs.Meaning.{Block}
use Rattle.ends.specs.Frames.{Request, Cargo}
use Rattle.ends.specs.Host.{State, fresh, opening, idle, on_its_way, down}
use Rattle.law.specs.Runs.{World}
use Rattle.law.specs.Law.{AtMostFirst, none_of, delivered, Delivers, Delivery}
use Rattle.law.proofs.Line.{line_le}
use Rattle.law.proofs.Steps.{at}
use Rattle.law.proofs.Sync.{last_two}
use Rattle.law.proofs.Books.{Gone, Books, block_in, at_most, law_of}
use Rattle.law.proofs.ToTnc.{carries, good_reply, if_good, Rest, settled_any}
use Rattle.law.proofs.ToHost.{offers}
use Rattle.law.proofs.Keeps.{Inv}

law_rest :
    (w : World) (c n m : ℕ) (book : ℕ → Request) {cnt sub : ℕ} (gone : List Gone)
    → m ≤ n
    → Books (w.to_tnc.submitted c) (w.to_tnc.named c) (w.host_out.waiting c) cnt sub gone
    → Rest c n m book gone (delivered w.to_tnc w.tnc_in c)
    → Delivers w.to_tnc w.host_out w.tnc_in c
law_rest w c n m book gone mn b r =
    law_of w.to_tnc w.host_out w.tnc_in c gone (delivered w.to_tnc w.tnc_in c) [] b
    (elim (ℕ_discrete m n) [ yes e ↦ r.rests (omega arith) | no h ↦ settled_any c n m book _ gone r (omega arith) ])
    none_of (sym (append-nil _))

at_most_good : (g : Bool) (y : Cargo) (out rest : List Block) → out ≡ block_in y ++ rest → AtMostFirst out (block_in (if_good g y))
at_most_good true y out rest e = rw e (at_most y rest)
at_most_good false y out rest e = none_of

law_up : (w : World) (st : State) (c : ℕ) → c ≤ last_channel → Inv (at w st) → Delivers w.to_tnc w.host_out w.tnc_in c
law_up w fresh c low i = law_rest w c _ _ _ (i.to_tnc c low).gone i.sync.mn (i.to_tnc c low).books (i.to_tnc c low).acct
law_up w (opening r) c low i = law_rest w c _ _ _ (i.to_tnc c low).gone i.sync.mn (i.to_tnc c low).books (i.to_tnc c low).acct
law_up w idle c low i = law_rest w c _ _ _ (i.to_tnc c low).gone i.sync.mn (i.to_tnc c low).books (i.to_tnc c low).acct
law_up w down c low i = law_rest w c _ _ _ (i.to_tnc c low).gone i.sync.mn (i.to_tnc c low).books (i.to_tnc c low).acct
law_up w (on_its_way f r) c low i =
    let u = i.to_tnc c low in
    ⊎_elim
    (λ h. let g = u.acct.got h in law_of w.to_tnc w.host_out w.tnc_in c u.gone g.0 (block_in (if_good (good_reply w.tnc.held.reply) (carries c f))) u.books g.1 (at_most_good (good_reply w.tnc.held.reply) (carries c f) (w.host_out.waiting c) u.acct.waits.0 u.acct.waits.1) g.2)
    (λ h. law_of w.to_tnc w.host_out w.tnc_in c u.gone (delivered w.to_tnc w.tnc_in c) [] u.books (u.acct.lacks h) none_of (sym (append-nil _)))
    (last_two i.m i.n i.sync.mn (omega (arith, i.sync.shape.0, line_le i.sync.dns)))

law_dn : (w : World) (c : ℕ) → c ≤ last_channel → Inv w → Delivers w.to_host w.tnc_out w.host_in c
law_dn w c low i =
    let u = i.to_host c low in
    ⊎_elim
    (λ k. law_of w.to_host w.tnc_out w.host_in c u.gone (delivered w.to_host w.host_in c) [] u.books k none_of (sym (append-nil _)))
    (λ g. law_of w.to_host w.tnc_out w.host_in c u.gone g.0 (block_in (offers c w.tnc.held)) u.books g.1 (at_most_good true (offers c w.tnc.held) (w.tnc_out.waiting c) u.offered.0 u.offered.1) g.2)
    u.unsure

pub delivery : (w : World) (c : ℕ) → c ≤ last_channel → Inv w → Delivery w c
delivery w c low i = record {
  to_tnc = law_up w w.host.state c low i;
  to_host = law_dn w c low i;
  host_number = (i.to_tnc c low).books.subs;
  tnc_number = (i.to_host c low).books.subs;
  host_most = (i.to_tnc c low).books.most;
  tnc_most = (i.to_host c low).books.most;
}
