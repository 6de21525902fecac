-- What a host's link is, by the model that its rules speak of.
use Rattle.std.specs.Prelude.{false}
use Rattle.poll.specs.List.{polled}
use Rattle.ends.specs.Counts.{submitted_of, gone_of}
use Rattle.ends.specs.Host as model
use Rattle.host.specs.declared.host.State.{State}
use Rattle.host.specs.declared.host.State.TheVariants as state
use Rattle.host.specs.declared.host.Link.{Link}
use Rattle.host.specs.Asked.{asked_request}

abbrev pub state_of : State → model.State
state_of state.Fresh = model.fresh
state_of (state.Opening r) = model.opening r
state_of state.Idle = model.idle
state_of (state.OnItsWay asked sent) =
    model.on_its_way (asked_request asked false sent.toggle) sent.repeats
state_of state.Down = model.down

abbrev pub host_of : Link → model.Host
host_of h = record {
  setting = h.setting;
  state = state_of h.state;
  generation = h.generation;
  last = h.last;
  spare = h.spare;
  resets = h.resets;
  poll_list = polled h.list;
  block_refused = h.refused;
  submitted = submitted_of h.counts;
  gone = gone_of h.counts;
}
