-- A call on one side goes on with each run whose world has that side: from what it does to every world.
use Rattle.std.proofs.Common.{◌≡◌, ℕ, List, [], sym, refl, ap, ◌∙◌}
use Rattle.ends.specs.Frames.{Request, Answer, request_body, answer_body, Written, nothing}
use Rattle.law.specs.Runs.{Way, World, Limits, Call, act, with_written, Allowed, Run, after}
use Rattle.law.specs.Sides.{HostSide, TncSide, host_side, tnc_side, wire_written, Sends, Goes, HostLaw, TncLaw}
use Rattle.law.proofs.Law.{delivery_law}

goes : (k : Call) {setting : ℕ} {l : Limits} {w : World} (r : Run setting l w) → Allowed k w → (h : HostSide) (t : TncSide) (up dn : List ℕ) (a b : Way)
    → host_side (act k w) ≡ h → tnc_side (act k w) ≡ t → Sends request_body up w.up (act k w).up → Sends answer_body dn w.dn (act k w).dn → (act k w).to_tnc ≡ a → (act k w).to_host ≡ b
    → Goes k r h t up dn a b
goes k {setting} {l} {w} r ok h t up dn a b host tnc ups dns to_tnc to_host = record {
  host_is = host;
  tnc_is = tnc;
  up_is = ups;
  dn_is = dns;
  to_tnc_is = to_tnc;
  to_host_is = to_host;
  delivers = delivery_law.delivers setting l (act k w) (after r k ok);
  falls = λ rep nr. delivery_law.falls setting l w r rep k ok nr;
}

-- What a call on the host's side makes of every world, by that side alone
pub record HostActs (k : Call) (then : HostSide → HostSide) (wrote : HostSide → Written Request) (sent came : HostSide → Way → Way) : Type 0 where
  pub host_is : (w : World) → host_side (act k w) ≡ then (host_side w)
  pub tnc_is : (w : World) → tnc_side (act k w) ≡ tnc_side w
  pub up_is : (w : World) → (act k w).up ≡ with_written w.up (wrote (host_side w))
  pub dn_is : (w : World) → (act k w).dn ≡ w.dn
  pub to_tnc_is : (w : World) → (act k w).to_tnc ≡ sent (host_side w) w.to_tnc
  pub to_host_is : (w : World) → (act k w).to_host ≡ came (host_side w) w.to_host

pub host_law :
    (k : Call) (then : HostSide → HostSide) (wrote : HostSide → Written Request) (sent came : HostSide → Way → Way) → HostActs k then wrote sent came
    → (old new : HostSide) (bytes : List ℕ) (s e : Way → Way) → new ≡ then old → bytes ≡ wire_written request_body (wrote old) → s ≡ sent old → e ≡ came old
    → HostLaw k old new bytes s e
host_law k then wrote sent came acts old new bytes s e new_is bytes_are s_is e_is = λ setting l w r is ok.
    goes k r ok new (tnc_side w) bytes [] (s w.to_tnc) (e w.to_host)
    (acts.host_is w ∙ ap then is ∙ sym new_is) (acts.tnc_is w)
    (record { wrote = wrote (host_side w); grown = acts.up_is w; bytes_are = bytes_are ∙ ap (λ x. wire_written request_body (wrote x)) (sym is) })
    (record { wrote = nothing; grown = acts.dn_is w; bytes_are = refl })
    (acts.to_tnc_is w ∙ ap (λ x. sent x w.to_tnc) is ∙ ap (λ (f : Way → Way). f w.to_tnc) (sym s_is))
    (acts.to_host_is w ∙ ap (λ x. came x w.to_host) is ∙ ap (λ (f : Way → Way). f w.to_host) (sym e_is))

-- the same of the TNC's side
pub record TncActs (k : Call) (then : TncSide → TncSide) (wrote : TncSide → Written Answer) (sent came : TncSide → Way → Way) : Type 0 where
  pub host_is : (w : World) → host_side (act k w) ≡ host_side w
  pub tnc_is : (w : World) → tnc_side (act k w) ≡ then (tnc_side w)
  pub up_is : (w : World) → (act k w).up ≡ w.up
  pub dn_is : (w : World) → (act k w).dn ≡ with_written w.dn (wrote (tnc_side w))
  pub to_tnc_is : (w : World) → (act k w).to_tnc ≡ came (tnc_side w) w.to_tnc
  pub to_host_is : (w : World) → (act k w).to_host ≡ sent (tnc_side w) w.to_host

pub tnc_law :
    (k : Call) (then : TncSide → TncSide) (wrote : TncSide → Written Answer) (sent came : TncSide → Way → Way) → TncActs k then wrote sent came
    → (old new : TncSide) (bytes : List ℕ) (s e : Way → Way) → new ≡ then old → bytes ≡ wire_written answer_body (wrote old) → s ≡ sent old → e ≡ came old
    → TncLaw k old new bytes s e
tnc_law k then wrote sent came acts old new bytes s e new_is bytes_are s_is e_is = λ setting l w r is ok.
    goes k r ok (host_side w) new [] bytes (e w.to_tnc) (s w.to_host)
    (acts.host_is w) (acts.tnc_is w ∙ ap then is ∙ sym new_is)
    (record { wrote = nothing; grown = acts.up_is w; bytes_are = refl })
    (record { wrote = wrote (tnc_side w); grown = acts.dn_is w; bytes_are = bytes_are ∙ ap (λ x. wire_written answer_body (wrote x)) (sym is) })
    (acts.to_tnc_is w ∙ ap (λ x. came x w.to_tnc) is ∙ ap (λ (f : Way → Way). f w.to_tnc) (sym e_is))
    (acts.to_host_is w ∙ ap (λ x. sent x w.to_host) is ∙ ap (λ (f : Way → Way). f w.to_host) (sym s_is))
