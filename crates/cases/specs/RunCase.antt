-- A run with 0 repeats in which a block is confirmed, call by call.
use Rattle.std.specs.Prelude.{◌≡◌, ℕ, false, true, List, [], ◌∷◌, ◌++◌, map, None, Some, Option, Ok}
use Rattle.std.specs.Prelude.{Result}
use Rattle.reader.specs.Read.{hears}
use Rattle.store.specs.Meaning.{Block, plain}
use Rattle.ends.specs.declared.refusal.Refusal.{Refusal}
use Rattle.ends.specs.Frames.{information}
use Rattle.ends.specs.Named.{name_of}
use Rattle.ends.specs.Host.{idle, on_its_way, down}
use Rattle.host.specs.declared.answer.Cause.TheVariants.{RepeatsUsed}
use Rattle.host.specs.declared.answer.Heard.{Heard}
use Rattle.host.specs.declared.answer.Heard.TheVariants.{Opened, Stale, Confirmed}
use Rattle.host.specs.declared.answer.Timed.TheVariants.{Down}
use Rattle.host.specs.Answers.{timer_answer}
use Rattle.host.specs.Hear.{hear_answer}
use Rattle.law.specs.Runs.{confirmed, World, Limits, Call, act, begin, Run}
use Rattle.law.specs.Runs.{host_open, host_step, host_timer, host_hear, host_submit}
use Rattle.law.specs.Runs.{tnc_hear, tnc_collect}

-- WHAT IS SENT

-- HELLO
abbrev pub hello : Block
hello = plain (72 ∷ 69 ∷ 76 ∷ 76 ∷ 79 ∷ [])

-- the wire forms: a reset of toggle 0, and its answer with an empty list
abbrev pub reset_wire : List ℕ
reset_wire = 170 ∷ 170 ∷ 255 ∷ 65 ∷ 0 ∷ 71 ∷ 29 ∷ 83 ∷ []

abbrev pub list_wire : List ℕ
list_wire = 170 ∷ 170 ∷ 255 ∷ 65 ∷ 0 ∷ 129 ∷ 95 ∷ []

-- HELLO on channel 33 with toggle 1, and its answer
abbrev pub block_wire : List ℕ
block_wire = 170 ∷ 170 ∷ 33 ∷ 128 ∷ 4 ∷ 72 ∷ 69 ∷ 76 ∷ 76 ∷ 79 ∷ 143 ∷ 55 ∷ []

abbrev pub success_wire : List ℕ
success_wire = 170 ∷ 170 ∷ 33 ∷ 128 ∷ 164 ∷ 177 ∷ []

-- THE CALLS

-- an end hears these bytes, those of the frame at a place among all that the other end has written
abbrev pub host_hears : ℕ → List ℕ → List Call
host_hears place bytes = map (λ byte. host_hear byte place) bytes

abbrev pub tnc_hears : ℕ → List ℕ → List Call
tnc_hears place bytes = map (λ byte. tnc_hear 521 byte place) bytes

-- the host opens, and the timer takes the link down
abbrev pub until_down : List Call
until_down = host_open 521 ∷ host_timer 521 ∷ []

-- it opens again, and the TNC hears the first reset
abbrev pub until_reset : List Call
until_reset = until_down ++ host_open 521 ∷ tnc_hears 0 reset_wire

-- the answer to that opens the host
abbrev pub until_open : List Call
until_open = until_reset ++ host_hears 0 list_wire

-- HELLO is submitted on channel 33, and sent
abbrev pub until_sent : List Call
until_sent = until_open ++ host_submit 33 hello ∷ host_step 521 ∷ []

-- the TNC hears the second reset
abbrev pub until_second : List Call
until_second = until_sent ++ tnc_hears 1 reset_wire

-- the answer to that is stale
abbrev pub until_stale : List Call
until_stale = until_second ++ host_hears 1 list_wire

-- the TNC takes the block
abbrev pub until_taken : List Call
until_taken = until_stale ++ tnc_hears 2 block_wire

-- its answer confirms the block
abbrev pub until_confirmed : List Call
until_confirmed = until_taken ++ host_hears 2 success_wire

-- and the TNC's program collects it
abbrev pub calls : List Call
calls = until_confirmed ++ tnc_collect 33 256 ∷ []

-- WHAT THEY DO

abbrev pub after_calls : List Call → World → World
after_calls [] w = w
after_calls (c ∷ cs) w = after_calls cs (act c w)

abbrev pub limits : Limits
limits = record { host_out = 4; host_in = 4; tnc_out = 4; tnc_in = 4 }

-- the world after some of the calls, from two new ends with 0 repeats and empty stores
abbrev pub world : List Call → World
world cs = after_calls cs (begin 0 limits)

-- what the host answers to the last of these bytes
abbrev pub last_answer : ℕ → List ℕ → World → Result (Option Heard) Refusal
last_answer place [] w = Ok None
last_answer place (b ∷ []) w = hear_answer (hears w.host_reader b) w.host w.host_out w.host_in
last_answer place (b ∷ c ∷ bytes) w = last_answer place (c ∷ bytes) (act (host_hear b place) w)

pub record RunCase : Type 0 where
  -- the line rule allows each call
  pub run : Run 0 limits (world calls)
  -- the first timer takes the link down, by cause 1 and without a note
  pub timed : timer_answer (world (host_open 521 ∷ [])).host 521
      ≡ Ok (Down (record { cause = RepeatsUsed; doubt = None }))
  pub fallen : (world until_down).host.state ≡ down
  -- the answer to the first reset opens it, and one frame out of sequence may still come
  pub opened : last_answer 0 list_wire (world until_reset) ≡ Ok (Some Opened)
  pub then_idle : (world until_open).host.state ≡ idle
  pub one_spare : (world until_open).host.spare ≡ 1
  -- the answer to the second is stale: that block is still on its way, and none may come any more
  pub stale : last_answer 1 list_wire (world until_second) ≡ Ok (Some Stale)
  pub still_sent : (world until_stale).host.state
      ≡ on_its_way
      (record { channel = 33; reset = false; toggle = true; load = information hello })
      0
  pub none_spare : (world until_stale).host.spare ≡ 0
  -- the TNC has taken the block
  pub taken : (world until_taken).tnc_in.waiting 33 ≡ hello ∷ []
  -- the block is confirmed as number 1 of channel 33
  pub confirms : last_answer 2 success_wire (world until_taken)
      ≡ Ok (Some (Confirmed (name_of 33 1)))
  -- at the end it is confirmed, the host is idle, and what was handed out is HELLO
  pub named : (world calls).to_tnc.named 33 ≡ confirmed 1 ∷ []
  pub at_rest : (world calls).host.state ≡ idle
  pub collected : (world calls).to_tnc.collected 33 ≡ hello ∷ []
