-- What a call leaves: the host, both stores and the wire buffer, by the step that the rules say.
use Rattle.std.specs.Prelude.{◌≡◌, ℕ, List}
use Rattle.store.specs.Meaning.{Meaning}
use Rattle.ends.specs.Sent.{request_wire}
use Rattle.ends.specs.Host.{Host, HostStep}
use Rattle.host.specs.declared.host.Host as kept
use Rattle.host.specs.Model.{host_of}

-- a call that writes hears nothing
pub record Left (s : HostStep) (host host_after : kept.Host) (out inn : Meaning) (before after : List ℕ) : Type 0 where
  pub host_is : host_of host_after.link ≡ s.host
  pub ear_is : host_after.ear ≡ host.ear
  pub out_is : out ≡ s.out
  pub inn_is : inn ≡ s.inn
  pub wire_is : after ≡ request_wire s.wrote before

-- the same of the link alone
pub record Leaves (s : HostStep) (host : Host) (out inn : Meaning) (before after : List ℕ) : Type 0 where
  pub host_is : host ≡ s.host
  pub out_is : out ≡ s.out
  pub inn_is : inn ≡ s.inn
  pub wire_is : after ≡ request_wire s.wrote before

-- what a call leaves that writes nothing
pub record Stands (s : HostStep) (host : Host) (out inn : Meaning) : Type 0 where
  pub host_is : host ≡ s.host
  pub out_is : out ≡ s.out
  pub inn_is : inn ≡ s.inn
