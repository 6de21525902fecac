-- What a line says, and what a command means.
use Rattle.std.specs.Prelude.{ℕ, List}
use Rattle.script.specs.Bytes.{bytes_of}
use Rattle.script.specs.declared.command.Setup.{Setup}
use Rattle.script.specs.declared.command.HostCall.{HostCall}
use Rattle.script.specs.declared.command.HostCall.TheVariants as host_call
use Rattle.script.specs.declared.command.TncCall.{TncCall}
use Rattle.script.specs.declared.command.TncCall.TheVariants as tnc_call
use Rattle.script.specs.declared.command.Command.{Command}
use Rattle.script.specs.declared.command.Command.TheVariants as command

-- a call of the host as a line says it, with its bytes
pub data HostSaid : Type 0 where
  opens : HostSaid
  steps : HostSaid
  times : HostSaid
  hears : List ℕ → HostSaid
  submits : ℕ → List ℕ → HostSaid
  submits_again : ℕ → List ℕ → HostSaid
  writes_off : ℕ → HostSaid
  collects : ℕ → HostSaid

-- a call of the TNC
pub data TncSaid : Type 0 where
  tnc_hears : List ℕ → TncSaid
  tnc_submits : ℕ → List ℕ → TncSaid
  tnc_collects : ℕ → TncSaid

-- what a line says
pub data Said : Type 0 where
  nothing : Said
  set_up : Setup → Said
  wire : ℕ → Said
  buffer : ℕ → Said
  host_is_called : HostSaid → Said
  tnc_is_called : TncSaid → Said

-- ---- what a command means

abbrev pub host_said : HostCall → HostSaid
host_said host_call.Open = opens
host_said host_call.Step = steps
host_said host_call.Timer = times
host_said (host_call.Hear h) = hears (bytes_of h)
host_said (host_call.Submit c h) = submits c (bytes_of h)
host_said (host_call.Again n h) = submits_again n (bytes_of h)
host_said (host_call.WriteOff n) = writes_off n
host_said (host_call.Collect c) = collects c

abbrev pub tnc_said : TncCall → TncSaid
tnc_said (tnc_call.Hear h) = tnc_hears (bytes_of h)
tnc_said (tnc_call.Submit c h) = tnc_submits c (bytes_of h)
tnc_said (tnc_call.Collect c) = tnc_collects c

abbrev pub said_by : Command → Said
said_by command.Nothing = nothing
said_by (command.Setup s) = set_up s
said_by (command.Wire n) = wire n
said_by (command.Buffer n) = buffer n
said_by (command.Host c) = host_is_called (host_said c)
said_by (command.Tnc c) = tnc_is_called (tnc_said c)
