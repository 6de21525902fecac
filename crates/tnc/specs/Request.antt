-- The request that a frame of the host is.
use Rattle.frame.specs.Head.{byte_of}
use Rattle.store.specs.Meaning.{plain}
use Rattle.ends.specs.Frames.{Load, poll, information, command, Request}
use Rattle.tnc.specs.declared.tnc.request.Load as read
use Rattle.tnc.specs.declared.tnc.request.Load.TheVariants as load
use Rattle.tnc.specs.declared.tnc.request.Request as whole

abbrev pub load_shown : read.Load → Load
load_shown load.Poll = poll
load_shown (load.Information p) = information (plain p.now)
load_shown (load.Command p) = command p.now

abbrev pub request_shown : whole.Request → Request
request_shown r = record { channel = byte_of r.head.address; reset = r.head.reset; toggle = r.head.toggle; load = load_shown r.load }
