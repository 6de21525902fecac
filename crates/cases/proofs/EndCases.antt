-- The cases of the ends, each from the rules by which they act.
use Rattle.std.proofs.Common.{◌≡◌, ℕ, suc, ◌<◌, ◌≤◌, refl, ap, ◌∙◌, arith, None, Option, Ok}
use Rattle.std.proofs.lemmas.Bool.{cond-false, le-ltb}
use Rattle.wire.specs.Wire.{longest_wire}
use Rattle.store.specs.Meaning.{Meaning}
use Rattle.ends.specs.Limits.{last_number}
use Rattle.ends.specs.Frames.{Load, poll, information, Request, cargo_of}
use Rattle.ends.specs.Blocks.{Word, silent, doubts, doubt_of, leaves, one_more_counted, counts}
use Rattle.ends.specs.Host.{State, opening, on_its_way, aboard, aboard_on, Host, HostStep, Sending, gives_up, timer_rule, loss_word, goes_down, by_timer, timer_call}
use Rattle.ends.specs.Tnc.{waiting_to}
use Rattle.host.specs.declared.note.DoubtNote.{DoubtNote}
use Rattle.host.specs.declared.answer.Cause.TheVariants.{RepeatsUsed}
use Rattle.host.specs.declared.answer.Timed.TheVariants.{Repeated, Down}
use Rattle.host.specs.Answers.{doubt_by, fall_by, sent, repeat_length}
use Rattle.cases.specs.EndCases.{TimedDown, EndCases}

-- where the rule is to give up, the call is the fall
timed_down : (size : ℕ) (h : Host) (out inn : Meaning) (handed : Option DoubtNote) (word : Word)
    → timer_rule h.setting h.state ≡ gives_up → loss_word h ≡ word → doubt_by word ≡ handed → longest_wire ≤ size
    → TimedDown size h out inn handed word
timed_down size h out inn handed word rule lost by wide =
    let goes : timer_call size h out inn ≡ goes_down h out inn = cond-false _ _ _ (le-ltb size longest_wire wide) ∙ ap (λ (s : Sending). by_timer s h out inn) rule in
    record {
      answer = ap (λ (s : Sending). sent s size (Repeated (repeat_length h.state h)) (Down (fall_by RepeatsUsed (loss_word h)))) rule
          ∙ cond-false _ _ _ (le-ltb size longest_wire wide)
          ∙ ap (λ (w : Word). Ok (Down (fall_by RepeatsUsed w))) lost
          ∙ ap (λ (n : Option DoubtNote). Ok (Down (record { cause = RepeatsUsed; doubt = n }))) by;
      state = ap (λ (s : HostStep). s.host.state) goes;
      word_is = ap (λ (s : HostStep). s.word) goes ∙ lost;
      gone_is = ap (λ (s : HostStep). s.host.gone) goes ∙ ap (λ (w : Word). counts w h.gone) lost;
      out_is = ap (λ (s : HostStep). s.out) goes ∙ ap (λ (w : Word). leaves w out) lost;
      inn_is = ap (λ (s : HostStep). s.inn) goes;
      wrote = ap (λ (s : HostStep). s.wrote) goes;
    }

-- the rule and the lost block by the state
rule_of : (h : Host) (s : State) → h.setting ≡ 0 → h.state ≡ s → timer_rule h.setting h.state ≡ timer_rule 0 s
rule_of h s setting state = ap (λ (n : ℕ). timer_rule n h.state) setting ∙ ap (timer_rule 0) state

lost_in : (h : Host) (s : State) → h.state ≡ s → loss_word h ≡ doubt_of (aboard_on s) (one_more_counted (h.gone (aboard_on s))) (aboard s)
lost_in h s e = ap (λ (t : State). doubt_of (aboard_on t) (one_more_counted (h.gone (aboard_on t))) (aboard t)) e

lost_by : (h : Host) (q : Request) (l : Load) → h.state ≡ on_its_way q 0 → q.load ≡ l → loss_word h ≡ doubt_of q.channel (one_more_counted (h.gone q.channel)) (cargo_of l)
lost_by h q l state load = lost_in h (on_its_way q 0) state ∙ ap (λ (k : Load). doubt_of q.channel (one_more_counted (h.gone q.channel)) (cargo_of k)) load

counted : (n : ℕ) → n < last_number → one_more_counted n ≡ suc n
counted n low = omega arith

pub end_cases_hold : EndCases
unfolding waiting_to
end_cases_hold = record {
  first_timer_opening = λ size h out inn setting state wide. timed_down size h out inn None silent (rule_of h (opening 0) setting state) (lost_in h (opening 0) state) refl wide;
  first_timer_poll = λ size h out inn q setting state load wide. timed_down size h out inn None silent (rule_of h (on_its_way q 0) setting state) (lost_by h q poll state load) refl wide;
  first_timer_block = λ size h out inn q b setting state load low wide.
      timed_down size h out inn _ (doubts q.channel (suc (h.gone q.channel))) (rule_of h (on_its_way q 0) setting state)
      (lost_by h q (information b) state load ∙ ap (doubts q.channel) (counted (h.gone q.channel) low)) refl wide;
  empty_list_answer = λ out_limit in_limit. (_, refl, refl);
}
