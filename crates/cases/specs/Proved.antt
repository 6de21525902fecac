-- The cases that are proved, together, as one fact of the rules.
use Rattle.std.specs.Prelude.{◌≡◌, ℕ, true, false, List, [], ◌∷◌, length, replicate, Ok, Err}
use Rattle.std.specs.Prelude.{Result}
use Rattle.poll.specs.List.{list_of}
use Rattle.frame.specs.declared.form.Direction.{Direction}
use Rattle.frame.specs.declared.form.Form.TheVariants as form
use Rattle.wire.specs.declared.writer.Refusal.{Refusal}
use Rattle.wire.specs.declared.writer.Refusal.TheVariants.{ShortWire}
use Rattle.frame.specs.Frame.{code_in, reset_in, toggle_in, Frame, body_of, Body}
use Rattle.wire.specs.Wire.{wire_of, refusal_number, Writes}
use Rattle.reader.specs.declared.fault.Reason.TheVariants.{StrayMark}
use Rattle.reader.specs.declared.state.Part.TheVariants.{Code}
use Rattle.reader.specs.declared.state.State.TheVariants.{Inside}
use Rattle.reader.specs.Fault.{fault_number}
use Rattle.reader.specs.Read.{at, fresh, fault_of, hears}
use Rattle.reader.specs.Laws.{after}
use Rattle.cases.specs.StoreCases.{StoreCases}
use Rattle.cases.specs.EndCases.{EndCases}
use Rattle.cases.specs.RunCase.{RunCase}

-- a frame of the host on channel 33
abbrev pub information : List ℕ → Frame
information block =
    record { channel = 33; code = 0; reset = false; toggle = false; payload = block }

-- the answer to a reset of toggle 0 while nothing waits
abbrev pub empty_list : Frame
empty_list = record {
  channel = 255;
  code = 1;
  reset = true;
  toggle = false;
  payload = list_of (replicate 64 false);
}

-- Eleven cases: six here, three of the stores, the first timer, and the run; `empty_list_answer` of
-- the ends belongs to the sixth.
pub record ProvedCases : Type 0 where
  -- a frame that may be sent goes into 521 bytes, and 520 give refusal 14
  pub wire_521 :
      (d : Direction) (f : Frame) (body before buffer : List ℕ) (r : Result ℕ Refusal)
      → Body d body f → Writes d f before buffer r → length before ≡ 521
      → (n : ℕ) × (r ≡ Ok n)
  pub wire_520 : (d : Direction) (f : Frame) (before buffer : List ℕ) (r : Result ℕ Refusal)
      → Writes d f before buffer r → length before ≡ 520
      → (r ≡ Err ShortWire) × (buffer ≡ before)
  pub number_14 : refusal_number ShortWire ≡ 14
  -- with AA AA AA 21 a frame has begun, on channel 33
  pub third_mark : (d : Direction)
      → after (fresh d) (170 ∷ 170 ∷ 170 ∷ 33 ∷ []) ≡ at d (Inside Code) (33 ∷ []) 1
  -- a count of AA, that of 171 bytes, is sent AA 00
  pub stuffed_count : (block : List ℕ) → length block ≡ 171 → (rest : List ℕ)
      × (wire_of (body_of form.Counted (information block))
      ≡ 170 ∷ 170 ∷ 33 ∷ 0 ∷ 170 ∷ 0 ∷ rest)
  -- AA 05 in a body gives fault 1, here at the fourth raw byte
  pub stray_mark : (d : Direction)
      → (hears (after (fresh d) (170 ∷ 170 ∷ 33 ∷ 0 ∷ 170 ∷ [])) 5).says
      ≡ Err (fault_of StrayMark 4)
  pub number_1 : fault_number StrayMark ≡ 1
  -- code byte 87 is code 7 with toggle 1
  pub code_87 : (code_in 135 ≡ 7) × (reset_in 135 ≡ false) × (toggle_in 135 ≡ true)
  -- FF 41 00 is the body that answers a reset of toggle 0 where nothing waits
  pub empty_list_body : body_of form.Text empty_list ≡ 255 ∷ 65 ∷ 0 ∷ []
  -- those of the stores
  pub stores : StoreCases
  -- those of the ends
  pub ends : EndCases
  -- the run in which a block is confirmed
  pub run : RunCase
