-- One call: what it leaves of both sides, and its law, from the clauses of the end.
use Rattle.std.proofs.Common.{◌≡◌, ℕ, cond, nat_lt, length, List, [], ap, ◌∙◌, subst}
use Rattle.wire.specs.Wire.{longest_wire}
use Rattle.reader.specs.Read.{hears}
use Rattle.store.specs.Meaning.{Meaning, plain}
use Rattle.ends.specs.Blocks.{submit_counts, submit_store}
use Rattle.ends.specs.Ear.{heard_by}
use Rattle.ends.specs.Host.{HostStep, host_counts}
use Rattle.ends.specs.Tnc.{TncStep, tnc_counts}
use Rattle.law.specs.Runs as law
use Rattle.law.specs.Runs.{Way, World, Limits, Run, Allowed}
use Rattle.law.specs.Sides.{HostSide, TncSide, host_side, tnc_side, Goes, HostLaw, TncLaw}
use Rattle.host.specs.declared.host.Host as host
use Rattle.host.specs.Model.{host_of}
use Rattle.host.specs.Left as host_left_of
use Rattle.host.specs.Side as host_sides
use Rattle.tnc.specs.declared.tnc.Tnc as tnc
use Rattle.tnc.specs.Model.{tnc_of}
use Rattle.tnc.specs.Left as tnc_left_of
use Rattle.tnc.specs.Side as tnc_sides
use Rattle.link.specs.Played.{Both, host_left, host_heard, host_given, tnc_heard, tnc_given}

-- THE LAW, with the other side named

module _ (k : ℕ → law.Call) (s c : Way → Way) (bytes : List ℕ) where
  pub host_goes : (old new : HostSide) (t : TncSide) → ((i : ℕ) → HostLaw (k i) old new bytes s c)
      → (i setting : ℕ) (l : Limits) (w : World) (r : Run setting l w) → host_side w ≡ old → tnc_side w ≡ t → Allowed (k i) w → Goes (k i) r new t bytes [] (s w.to_tnc) (c w.to_host)
  host_goes old new t holds i setting l w r h is ok = subst (λ (x : TncSide). Goes (k i) r new x bytes [] (s w.to_tnc) (c w.to_host)) is (holds i setting l w r h ok)

  pub tnc_goes : (old new : TncSide) (h : HostSide) → ((i : ℕ) → TncLaw (k i) old new bytes s c)
      → (i setting : ℕ) (l : Limits) (w : World) (r : Run setting l w) → host_side w ≡ h → tnc_side w ≡ old → Allowed (k i) w → Goes (k i) r h new [] bytes (c w.to_tnc) (s w.to_host)
  tnc_goes old new h holds i setting l w r is t ok = subst (λ (x : HostSide). Goes (k i) r x new [] bytes (c w.to_tnc) (s w.to_host)) is (holds i setting l w r t ok)

-- WHAT IS LEFT

abbrev of_host : HostSide → TncSide → List ℕ → List ℕ → Both
of_host h t wire block = record { host = h; tnc = t; wire = wire; block = block }

module _ (h q : host.Host) (t : TncSide) (out inn o i : Meaning) (wire block : List ℕ) where
  pub wrote : (after : List ℕ) (S : HostStep) → host_left_of.Left S h q o i wire after → of_host (host_sides.side q o i) t after block ≡ host_left S (of_host (host_sides.side h out inn) t wire block)
  wrote after S l =
      ap (λ x. of_host (record { host = x; ear = heard_by q.ear; out = o; inn = i }) t after block) l.host_is
      ∙ ap (λ x. of_host (record { host = S.host; ear = heard_by x; out = o; inn = i }) t after block) l.ear_is
      ∙ ap (λ x. of_host (record { host = S.host; ear = heard_by h.ear; out = x; inn = i }) t after block) l.out_is
      ∙ ap (λ x. of_host (record { host = S.host; ear = heard_by h.ear; out = S.out; inn = x }) t after block) l.inn_is
      ∙ ap (λ x. of_host (record { host = S.host; ear = heard_by h.ear; out = S.out; inn = S.inn }) t x block) l.wire_is

  pub heard : (byte : ℕ) (S : HostStep) → host_left_of.Stands S (host_of q.link) o i → heard_by q.ear ≡ (hears (heard_by h.ear) byte).then
      → of_host (host_sides.side q o i) t wire block ≡ host_heard byte S (of_host (host_sides.side h out inn) t wire block)
  heard byte S l ear =
      ap (λ x. of_host (record { host = x; ear = heard_by q.ear; out = o; inn = i }) t wire block) l.host_is
      ∙ ap (λ x. of_host (record { host = S.host; ear = x; out = o; inn = i }) t wire block) ear
      ∙ ap (λ x. of_host (record { host = S.host; ear = (hears (heard_by h.ear) byte).then; out = x; inn = i }) t wire block) l.out_is
      ∙ ap (λ x. of_host (record { host = S.host; ear = (hears (heard_by h.ear) byte).then; out = S.out; inn = x }) t wire block) l.inn_is

  pub given : (c : ℕ) (b : List ℕ) → host_of q.link ≡ host_counts (host_of h.link) (submit_counts (host_of h.link).submitted out c (plain b)) → q.ear ≡ h.ear → o ≡ submit_store (host_of h.link).submitted out c (plain b)
      → of_host (host_sides.side q o inn) t wire block ≡ host_given c b (of_host (host_sides.side h out inn) t wire block)
  given c b is ear into =
      ap (λ x. of_host (record { host = x; ear = heard_by q.ear; out = o; inn = inn }) t wire block) is
      ∙ ap (λ x. of_host (record { host = host_counts (host_of h.link) (submit_counts (host_of h.link).submitted out c (plain b)); ear = heard_by x; out = o; inn = inn }) t wire block) ear
      ∙ ap (λ x. of_host (record { host = host_counts (host_of h.link) (submit_counts (host_of h.link).submitted out c (plain b)); ear = heard_by h.ear; out = x; inn = inn }) t wire block) into

module _ (t q : tnc.Tnc) (h : HostSide) (out inn o i : Meaning) (wire block : List ℕ) where
  pub answered : (byte : ℕ) (after : List ℕ) (S : TncStep) → tnc_left_of.Left S (tnc_of q.link) o i wire after
      → heard_by q.ear ≡ cond (nat_lt (length wire) longest_wire) (heard_by t.ear) (hears (heard_by t.ear) byte).then
      → of_host h (tnc_sides.side q o i) after block ≡ tnc_heard byte S (of_host h (tnc_sides.side t out inn) wire block)
  answered byte after S l ear =
      let e = cond (nat_lt (length wire) longest_wire) (heard_by t.ear) (hears (heard_by t.ear) byte).then in
      ap (λ x. of_host h (record { tnc = x; ear = heard_by q.ear; out = o; inn = i }) after block) l.tnc_is
      ∙ ap (λ x. of_host h (record { tnc = S.tnc; ear = x; out = o; inn = i }) after block) ear
      ∙ ap (λ x. of_host h (record { tnc = S.tnc; ear = e; out = x; inn = i }) after block) l.out_is
      ∙ ap (λ x. of_host h (record { tnc = S.tnc; ear = e; out = S.out; inn = x }) after block) l.inn_is
      ∙ ap (λ x. of_host h (record { tnc = S.tnc; ear = e; out = S.out; inn = S.inn }) x block) l.wire_is

  pub handed : (c : ℕ) (b : List ℕ) → tnc_of q.link ≡ tnc_counts (tnc_of t.link) (submit_counts (tnc_of t.link).submitted out c (plain b)) → q.ear ≡ t.ear → o ≡ submit_store (tnc_of t.link).submitted out c (plain b)
      → of_host h (tnc_sides.side q o inn) wire block ≡ tnc_given c b (of_host h (tnc_sides.side t out inn) wire block)
  handed c b is ear into =
      ap (λ x. of_host h (record { tnc = x; ear = heard_by q.ear; out = o; inn = inn }) wire block) is
      ∙ ap (λ x. of_host h (record { tnc = tnc_counts (tnc_of t.link) (submit_counts (tnc_of t.link).submitted out c (plain b)); ear = heard_by x; out = o; inn = inn }) wire block) ear
      ∙ ap (λ x. of_host h (record { tnc = tnc_counts (tnc_of t.link) (submit_counts (tnc_of t.link).submitted out c (plain b)); ear = heard_by t.ear; out = x; inn = inn }) wire block) into
