-- The cases of the two ends that are proved, together, as one fact of the rules that their
-- contracts cite.
use Rattle.std.specs.Prelude.{◌≡◌, ℕ, suc, ◌<◌, ◌≤◌, false, [], ◌∷◌, Some, None, Option, Ok}
use Rattle.wire.specs.Wire.{longest_wire}
use Rattle.store.specs.Meaning.{Block, Meaning, empty}
use Rattle.ends.specs.Limits.{last_number}
use Rattle.ends.specs.Frames.{poll, information, Request, Answer, answer_body, nothing, one}
use Rattle.ends.specs.Blocks.{Word, silent, doubts, leaves, counts}
use Rattle.ends.specs.Host.{opening, on_its_way, down, Host, reset_request, timer_call}
use Rattle.ends.specs.Tnc.{new_tnc, tnc_step}
use Rattle.host.specs.declared.note.DoubtNote.{DoubtNote}
use Rattle.host.specs.declared.answer.Cause.TheVariants.{RepeatsUsed}
use Rattle.host.specs.declared.answer.Timed.TheVariants.{Down}
use Rattle.host.specs.Answers.{timer_answer}

-- a timer takes the link down by cause 1 and writes nothing; it hands out that note, and names that
-- block, which leaves its store and counts as gone
pub record TimedDown
    (size : ℕ) (h : Host) (out inn : Meaning)
    (handed : Option DoubtNote) (word : Word) : Type 0 where
  pub answer : timer_answer h size ≡ Ok (Down (record { cause = RepeatsUsed; doubt = handed }))
  pub state : (timer_call size h out inn).host.state ≡ down
  pub word_is : (timer_call size h out inn).word ≡ word
  pub gone_is : (timer_call size h out inn).host.gone ≡ counts word h.gone
  pub out_is : (timer_call size h out inn).out ≡ leaves word out
  pub inn_is : (timer_call size h out inn).inn ≡ inn
  pub wrote : (timer_call size h out inn).wrote ≡ nothing

pub record EndCases : Type 0 where
  -- where no frame is to be repeated, the link falls at the first timer: in opening and after a
  -- poll without a note,
  pub first_timer_opening : (size : ℕ) (h : Host) (out inn : Meaning)
      → h.setting ≡ 0 → h.state ≡ opening 0 → longest_wire ≤ size
      → TimedDown size h out inn None silent
  pub first_timer_poll : (size : ℕ) (h : Host) (out inn : Meaning) (q : Request)
      → h.setting ≡ 0 → h.state ≡ on_its_way q 0 → q.load ≡ poll → longest_wire ≤ size
      → TimedDown size h out inn None silent
  -- and after a block with a note for it, whose number is the one after those that are gone
  pub first_timer_block : (size : ℕ) (h : Host) (out inn : Meaning) (q : Request) (b : Block)
      → h.setting ≡ 0 → h.state ≡ on_its_way q 0 → q.load ≡ information b
      → h.gone q.channel < last_number → longest_wire ≤ size
      → TimedDown size h out inn
      (Some (record { channel = q.channel; number = suc (h.gone q.channel) }))
      (doubts q.channel (suc (h.gone q.channel)))
  -- a TNC that has heard nothing, and for which nothing waits, answers a reset of toggle 0 with
  -- FF 41 00
  pub empty_list_answer : (out_limit in_limit : ℕ) → (a : Answer)
      × ((tnc_step new_tnc (empty out_limit) (empty in_limit) (reset_request false)).wrote ≡ one a)
      × (answer_body a ≡ 255 ∷ 65 ∷ 0 ∷ [])
