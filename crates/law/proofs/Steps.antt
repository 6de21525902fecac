-- A frame heard, once its body is read: what a hear does to the world but for the readers.
use Rattle.std.proofs.Common.{ℕ, suc}
use Rattle.ends.specs.Frames.{Request, Answer}
use Rattle.ends.specs.Host.{State, in_state, hear_step}
use Rattle.ends.specs.Tnc.{tnc_step}
use Rattle.law.specs.Runs.{World, after_host, after_tnc}

abbrev pub host_heard : Answer → ℕ → World → World
host_heard a i w = after_host (hear_step w.host w.host_out w.host_in a) i (suc i) w.tries w

abbrev pub tnc_heard : Request → ℕ → World → World
tnc_heard q i w = after_tnc (tnc_step w.tnc w.tnc_out w.tnc_in q) i w

-- a world with its host in that state
abbrev pub at : World → State → World
at w s = record { host = in_state w.host s; host_reader = w.host_reader; tnc = w.tnc; tnc_reader = w.tnc_reader; host_out = w.host_out; host_in = w.host_in; tnc_out = w.tnc_out; tnc_in = w.tnc_in; up = w.up; dn = w.dn; up_at = w.up_at; dn_at = w.dn_at; up_next = w.up_next; dn_next = w.dn_next; to_tnc = w.to_tnc; to_host = w.to_host; tries = w.tries }
