-- The two sides of the link, and what the law says of a call that was made on one of them.
use Rattle.std.specs.Prelude.{◌≡◌, ℕ, ◌≤◌, ◌↔◌, List, []}
use Rattle.poll.specs.Channel.{last_channel}
use Rattle.wire.specs.Wire.{wire_of}
use Rattle.reader.specs.Read as reader
use Rattle.store.specs.Meaning.{Meaning}
use Rattle.ends.specs.Frames.{request_body, answer_body, Written, nothing, one}
use Rattle.ends.specs.Host.{Host}
use Rattle.ends.specs.Tnc.{Tnc}
use Rattle.law.specs.Runs.{Way, World, Limits, Call, act, with_written, Allowed, NotRepeated, Run}
use Rattle.law.specs.Runs.{RepeatsNothing}
use Rattle.law.specs.Law.{Delivery, TakesDown, UsedUp}

-- A side: an end, its reader, and its two stores by their meaning
pub record HostSide : Type 0 where
  pub host : Host
  pub ear : reader.Meaning
  pub out : Meaning
  pub inn : Meaning

pub record TncSide : Type 0 where
  pub tnc : Tnc
  pub ear : reader.Meaning
  pub out : Meaning
  pub inn : Meaning

-- the sides as a world has them
abbrev pub host_side : World → HostSide
host_side w = record { host = w.host; ear = w.host_reader; out = w.host_out; inn = w.host_in }

abbrev pub tnc_side : World → TncSide
tnc_side w = record { tnc = w.tnc; ear = w.tnc_reader; out = w.tnc_out; inn = w.tnc_in }

-- the wire form of the frame that a call wrote, if it wrote one
abbrev pub wire_written : {A : Type 0} → (A → List ℕ) → Written A → List ℕ
wire_written body nothing = []
wire_written body (one f) = wire_of (body f)

-- the frames of an end have grown by the one whose wire form these bytes are, or, where there are
-- none, by none
pub record Sends {A : Type 0}
    (body : A → List ℕ) (bytes : List ℕ) (before after : List A) : Type 0 where
  pub wrote : Written A
  pub grown : after ≡ with_written before wrote
  pub bytes_are : bytes ≡ wire_written body wrote

-- a way on which a call does nothing
abbrev pub unchanged : Way → Way
unchanged y = y

-- What the law says of a call k after a run r that reached w; the run goes on by k, since the line
-- rule allows it.
-- host_is, tnc_is: the sides that the run then has. up, dn: the bytes that the host, the TNC has
-- sent with it. to_tnc, to_host: the histories of the two ways. delivers: delivery holds, on every
-- channel and both ways. falls: where the lines have repeated nothing, the call took the link down
-- exactly if it is a granted timer of a frame that has had all its repeats.
pub record Goes
    (k : Call) {setting : ℕ} {l : Limits} {w : World} (r : Run setting l w)
    (host : HostSide) (tnc : TncSide) (up dn : List ℕ) (to_tnc to_host : Way) : Type 0 where
  pub host_is : host_side (act k w) ≡ host
  pub tnc_is : tnc_side (act k w) ≡ tnc
  pub up_is : Sends request_body up w.up (act k w).up
  pub dn_is : Sends answer_body dn w.dn (act k w).dn
  pub to_tnc_is : (act k w).to_tnc ≡ to_tnc
  pub to_host_is : (act k w).to_host ≡ to_host
  pub delivers : (c : ℕ) → c ≤ last_channel → Delivery (act k w) c
  pub falls : RepeatsNothing r → NotRepeated k w
      → TakesDown w (act k w) ↔ UsedUp setting w k

-- A call on the host's side, which sent these bytes: after every run whose world has this side as
-- it was before the call, the run goes on by k, and then has this side as it is after the call, and
-- the other as it was. sent: what became of the way of its own blocks; came: of the other way.
abbrev pub HostLaw :
    Call → HostSide → HostSide → List ℕ → (Way → Way) → (Way → Way) → Type 0
HostLaw k old new bytes sent came =
    (setting : ℕ) (l : Limits) (w : World) (r : Run setting l w)
    → host_side w ≡ old → Allowed k w
    → Goes k r new (tnc_side w) bytes [] (sent w.to_tnc) (came w.to_host)

-- the same of the TNC's side
abbrev pub TncLaw :
    Call → TncSide → TncSide → List ℕ → (Way → Way) → (Way → Way) → Type 0
TncLaw k old new bytes sent came =
    (setting : ℕ) (l : Limits) (w : World) (r : Run setting l w)
    → tnc_side w ≡ old → Allowed k w
    → Goes k r (host_side w) new [] bytes (came w.to_tnc) (sent w.to_host)
