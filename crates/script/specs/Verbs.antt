-- Which call a call is.
use Rattle.script.specs.declared.name.HostVerb.{HostVerb}
use Rattle.script.specs.declared.name.HostVerb.TheVariants as host
use Rattle.script.specs.declared.name.TncVerb.{TncVerb}
use Rattle.script.specs.declared.name.TncVerb.TheVariants as tnc
use Rattle.script.specs.declared.command.HostCall.{HostCall}
use Rattle.script.specs.declared.command.HostCall.TheVariants as host_call
use Rattle.script.specs.declared.command.TncCall.{TncCall}
use Rattle.script.specs.declared.command.TncCall.TheVariants as tnc_call

abbrev pub host_verb : HostCall → HostVerb
host_verb host_call.Open = host.Open
host_verb host_call.Step = host.Step
host_verb host_call.Timer = host.Timer
host_verb (host_call.Hear bytes) = host.Hear
host_verb (host_call.Submit channel block) = host.Submit
host_verb (host_call.Again note block) = host.Again
host_verb (host_call.WriteOff note) = host.WriteOff
host_verb (host_call.Collect channel) = host.Collect

abbrev pub tnc_verb : TncCall → TncVerb
tnc_verb (tnc_call.Hear bytes) = tnc.Hear
tnc_verb (tnc_call.Submit channel block) = tnc.Submit
tnc_verb (tnc_call.Collect channel) = tnc.Collect
