-- Lists of calls that were played on both ends: what each did, and how runs go on by them.
use Rattle.std.specs.Prelude.{◌≡◌, ℕ, List, [], ◌∷◌, map, length, take, if◌then◌else◌, nat_lt}
use Rattle.std.specs.Prelude.{is_ok, Some, None, Option, Result, MatchOption, ⊤}
use Rattle.std.specs.Result.{result_unwrap_or}
use Rattle.wire.specs.Wire.{longest_wire}
use Rattle.reader.specs.Read.{hears}
use Rattle.store.specs.Meaning.{Meaning, plain}
use Rattle.store.specs.Rules.{copy_source, written_over}
use Rattle.ends.specs.Blocks.{submit_answer, submit_counts, submit_store, collect_answer}
use Rattle.ends.specs.Blocks.{collect_store}
use Rattle.ends.specs.Host.{HostStep, host_counts, open_call, step_call, timer_call}
use Rattle.ends.specs.Tnc.{TncStep, tnc_counts}
use Rattle.ends.specs.Sent.{request_wire, answer_wire}
use Rattle.law.specs.Runs as law
use Rattle.law.specs.Runs.{Way, World, Limits, Run, after, act, Allowed, naming, submitting}
use Rattle.law.specs.Runs.{collecting, host_open, host_step, host_timer, host_hear, host_submit}
use Rattle.law.specs.Runs.{host_submit_again, host_collect, tnc_hear, tnc_submit, tnc_collect}
use Rattle.law.specs.Sides.{HostSide, TncSide, host_side, tnc_side, unchanged, Goes}
use Rattle.host.specs.declared.note.DoubtNote.{DoubtNote}
use Rattle.host.specs.Answers as host
use Rattle.host.specs.Hear as host_rules
use Rattle.host.specs.Side as host_sides
use Rattle.tnc.specs.Answers as tnc
use Rattle.tnc.specs.Hear as tnc_rules
use Rattle.tnc.specs.Side as tnc_sides
use Rattle.link.specs.declared.call.Call.{Call}
use Rattle.link.specs.declared.call.Call.TheVariants as call
use Rattle.link.specs.declared.event.Event.{Event}
use Rattle.link.specs.declared.event.Event.TheVariants as event
use Rattle.link.specs.declared.pair.Ends as kept
use Rattle.link.specs.declared.pair.Stores.{Stores}

-- both sides, and the wire buffer and the block buffer that each call is given
pub record Both : Type 0 where
  pub host : HostSide
  pub tnc : TncSide
  pub wire : List ℕ
  pub block : List ℕ

-- by what the four stores mean
abbrev pub both :
    {A B C D : Type 0} → (A → Meaning) → (B → Meaning) → (C → Meaning) → (D → Meaning)
    → kept.Ends → Stores A B C D → List ℕ → List ℕ → Both
both ho hi to ti e s wire block = record {
  host = host_sides.side e.host (ho s.host_out) (hi s.host_in);
  tnc = tnc_sides.side e.tnc (to s.tnc_out) (ti s.tnc_in);
  wire = wire;
  block = block;
}

-- a call that was made, and what it left
pub record Step : Type 0 where
  pub event : Event
  pub next : Both

-- WHAT A CALL DOES, as its own clauses say

abbrev pub call_of : Event → Call
call_of (event.HostOpen r) = call.HostOpen
call_of (event.HostStep r) = call.HostStep
call_of (event.HostTimer r) = call.HostTimer
call_of (event.HostHear byte r) = call.HostHear byte
call_of (event.HostSubmit c b r) = call.HostSubmit c b
call_of (event.HostSubmitAgain c n b r) = call.HostSubmitAgain b
call_of (event.NoNote b) = call.HostSubmitAgain b
call_of (event.HostCollect c r) = call.HostCollect c
call_of (event.TncHear byte r) = call.TncHear byte
call_of (event.TncSubmit c b r) = call.TncSubmit c b
call_of (event.TncCollect c r) = call.TncCollect c

-- what it answers
abbrev pub Answers : Event → Both → Type 0
Answers (event.HostOpen r) s = r ≡ host.open_answer s.host.host (length s.wire)
Answers (event.HostStep r) s = r ≡ host.step_answer s.host.host s.host.out (length s.wire)
Answers (event.HostTimer r) s = r ≡ host.timer_answer s.host.host (length s.wire)
Answers (event.HostHear byte r) s =
    r ≡ host_rules.hear_answer (hears s.host.ear byte) s.host.host s.host.out s.host.inn
Answers (event.HostSubmit c b r) s =
    r ≡ submit_answer s.host.host.submitted s.host.out c (plain b.now)
Answers (event.HostSubmitAgain c n b r) s =
    r ≡ host.again_answer (submit_answer s.host.host.submitted s.host.out c (plain b.now))
    (record { channel = c; number = n })
Answers (event.NoNote b) s = ⊤
Answers (event.HostCollect c r) s = r ≡ collect_answer s.host.inn c (length s.block)
Answers (event.TncHear byte r) s =
    r ≡ tnc_rules.hear_answer (length s.wire) (hears s.tnc.ear byte)
    s.tnc.tnc s.tnc.out s.tnc.inn
Answers (event.TncSubmit c b r) s =
    r ≡ submit_answer s.tnc.tnc.submitted s.tnc.out c (plain b.now)
Answers (event.TncCollect c r) s = r ≡ collect_answer s.tnc.inn c (length s.block)

-- what it leaves
abbrev pub host_left : HostStep → Both → Both
host_left x s = record s {
  host = record s.host { host = x.host; out = x.out; inn = x.inn };
  wire = request_wire x.wrote s.wire;
}

abbrev pub host_heard : ℕ → HostStep → Both → Both
host_heard byte x s = record s {
  host = record { host = x.host; ear = (hears s.host.ear byte).then; out = x.out; inn = x.inn };
}

abbrev pub host_given : ℕ → List ℕ → Both → Both
host_given c b s = record s {
  host = record s.host {
    host = host_counts s.host.host (submit_counts s.host.host.submitted s.host.out c (plain b));
    out = submit_store s.host.host.submitted s.host.out c (plain b);
  };
}

abbrev pub host_collected : ℕ → Both → Both
host_collected c s = record s {
  host = record s.host { inn = collect_store s.host.inn c (length s.block) };
  block = written_over (copy_source s.host.inn c (length s.block)) s.block;
}

abbrev pub tnc_heard : ℕ → TncStep → Both → Both
tnc_heard byte x s = record s {
  tnc = record {
    tnc = x.tnc;
    ear =
        if nat_lt (length s.wire) longest_wire then s.tnc.ear else (hears s.tnc.ear byte).then;
    out = x.out;
    inn = x.inn;
  };
  wire = answer_wire x.wrote s.wire;
}

abbrev pub tnc_given : ℕ → List ℕ → Both → Both
tnc_given c b s = record s {
  tnc = record s.tnc {
    tnc = tnc_counts s.tnc.tnc (submit_counts s.tnc.tnc.submitted s.tnc.out c (plain b));
    out = submit_store s.tnc.tnc.submitted s.tnc.out c (plain b);
  };
}

abbrev pub tnc_collected : ℕ → Both → Both
tnc_collected c s = record s {
  tnc = record s.tnc { inn = collect_store s.tnc.inn c (length s.block) };
  block = written_over (copy_source s.tnc.inn c (length s.block)) s.block;
}

abbrev pub left : Event → Both → Both
left (event.HostOpen r) s =
    host_left (open_call (length s.wire) s.host.host s.host.out s.host.inn) s
left (event.HostStep r) s =
    host_left (step_call (length s.wire) s.host.host s.host.out s.host.inn) s
left (event.HostTimer r) s =
    host_left (timer_call (length s.wire) s.host.host s.host.out s.host.inn) s
left (event.HostHear byte r) s =
    host_heard byte
    (host_rules.hear_call (hears s.host.ear byte) s.host.host s.host.out s.host.inn) s
left (event.HostSubmit c b r) s = host_given c b.now s
left (event.HostSubmitAgain c n b r) s = host_given c b.now s
left (event.NoNote b) s = s
left (event.HostCollect c r) s = host_collected c s
left (event.TncHear byte r) s =
    tnc_heard byte
    (tnc_rules.hear_call (length s.wire) (hears s.tnc.ear byte) s.tnc.tnc s.tnc.out s.tnc.inn) s
left (event.TncSubmit c b r) s = tnc_given c b.now s
left (event.TncCollect c r) s = tnc_collected c s

-- WHAT THE LAW SAYS OF IT

-- the law's call, by the place of the frame that passes with it; where no note was given, there is
-- none
abbrev pub law_call : Event → Both → Option (ℕ → law.Call)
law_call (event.HostOpen r) s = Some (λ i. host_open (length s.wire))
law_call (event.HostStep r) s = Some (λ i. host_step (length s.wire))
law_call (event.HostTimer r) s = Some (λ i. host_timer (length s.wire))
law_call (event.HostHear byte r) s = Some (λ i. host_hear byte i)
law_call (event.HostSubmit c b r) s = Some (λ i. host_submit c (plain b.now))
law_call (event.HostSubmitAgain c n b r) s = Some (λ i. host_submit_again c n (plain b.now))
law_call (event.NoNote b) s = None
law_call (event.HostCollect c r) s = Some (λ i. host_collect c (length s.block))
law_call (event.TncHear byte r) s = Some (λ i. tnc_hear (length s.wire) byte i)
law_call (event.TncSubmit c b r) s = Some (λ i. tnc_submit c (plain b.now))
law_call (event.TncCollect c r) s = Some (λ i. tnc_collect c (length s.block))

-- what its answer and its buffers tell of the frames sent and of the two ways
pub record Told : Type 0 where
  pub up : List ℕ
  pub dn : List ℕ
  pub to_tnc : Way → Way
  pub to_host : Way → Way

abbrev pub tells : List ℕ → List ℕ → (Way → Way) → (Way → Way) → Told
tells up dn to_tnc to_host = record { up = up; dn = dn; to_tnc = to_tnc; to_host = to_host }

-- the block that a collect handed out, on its way
abbrev pub handed : {E : Type 0} → Result ℕ E → ℕ → List ℕ → Way → Way
handed r c buffer = collecting (is_ok r) c (plain (take (result_unwrap_or r 0) buffer) ∷ [])

abbrev pub told : Event → Both → Told
told (event.HostOpen r) t = tells (take (result_unwrap_or r 0) t.wire) [] unchanged unchanged
told (event.HostStep r) t = tells (take (host_sides.step_length r) t.wire) [] unchanged unchanged
told (event.HostTimer r) t =
    tells (take (host_sides.timer_length r) t.wire) [] (naming (host.timed_word r)) unchanged
told (event.HostHear byte r) t = tells [] [] (naming (host.byte_word r)) unchanged
told (event.HostSubmit c b r) t = tells [] [] (submitting (is_ok r) c (plain b.now)) unchanged
told (event.HostSubmitAgain c n b r) t =
    tells [] [] (submitting (is_ok r) c (plain b.now)) unchanged
told (event.NoNote b) t = tells [] [] unchanged unchanged
told (event.HostCollect c r) t = tells [] [] unchanged (handed r c t.block)
told (event.TncHear byte r) t =
    tells [] (take (tnc_sides.hear_length r) t.wire) unchanged (naming (tnc.byte_word r))
told (event.TncSubmit c b r) t = tells [] [] unchanged (submitting (is_ok r) c (plain b.now))
told (event.TncCollect c r) t = tells [] [] (handed r c t.block) unchanged

-- a run goes on by a call of the law, which left these sides, and of which this was told
abbrev pub GoesBy :
    (k : law.Call) {setting : ℕ} {l : Limits} {w : World} (r : Run setting l w)
    → Both → Told → Type 0
GoesBy k {setting} {l} {w} r t told =
    Goes k r t.host t.tnc told.up told.dn (told.to_tnc w.to_tnc) (told.to_host w.to_host)

-- where there is one: after every run whose world has both sides as they were, and at every place
-- that the line rule allows
abbrev pub LawOf : Option (ℕ → law.Call) → Both → Both → Told → Type 0
LawOf None s t told = t ≡ s
LawOf (Some k) s t told =
    (i setting : ℕ) (l : Limits) (w : World) (r : Run setting l w)
    → host_side w ≡ s.host → tnc_side w ≡ s.tnc → Allowed (k i) w → GoesBy (k i) r t told

-- LISTS

-- one call: its answer, what it left, and the law
pub record One (s : Both) (e : Event) (t : Both) : Type 0 where
  pub answers : Answers e s
  pub leaves : t ≡ left e s
  pub law : LawOf (law_call e s) s t (told e t)

-- each call found what the one before left
abbrev pub Each : Both → List Step → Both → Type 0
Each s [] t = s ≡ t
Each s (x ∷ xs) t = One s x.event x.next × Each x.next xs t

-- the observer gave the note by which a block was submitted once more, or said that it has none
abbrev pub Gave : {W : Type 0} → (W → Option DoubtNote → W → Type 0) → Event → W → W → Type 0
Gave gives (event.HostSubmitAgain c n b r) v u =
    gives v (Some (record { channel = c; number = n })) u
Gave gives (event.NoNote b) v u = gives v None u
Gave gives e v u = v ≡ u

-- it gave the notes, and was told of each call, in order
abbrev pub Seen : {W : Type 0}
    → (W → Option DoubtNote → W → Type 0) → (W → Event → List ℕ → List ℕ → W → Type 0)
    → W → List Step → W → Type 0
Seen gives sees v [] u = v ≡ u
Seen {W} gives sees v (x ∷ xs) u =
    (asked : W) × (saw : W) × Gave gives x.event v asked
    × sees asked x.event x.next.wire x.next.block saw × Seen gives sees saw xs u

-- A run goes on by each call that was made, at every place that the line rule allows where the run
-- then is, and the law holds after each.
abbrev pub GoesOn :
    Both → List Step → {setting : ℕ} {l : Limits} {w : World} → Run setting l w → Type 0
GoesOn s [] r = ⊤
GoesOn s (x ∷ xs) {w = w} r = MatchOption (law_call x.event s)
    (GoesOn x.next xs r)
    (λ k. (i : ℕ) (ok : Allowed (k i) w) → GoesBy (k i) r x.next (told x.event x.next)
    × GoesOn x.next xs (after r (k i) ok))

-- A list was played: some steps, which are its calls, each as its own clauses say; the observer was
-- told each; and after every run that reached a world with both sides as they were, the run goes on
-- by them.
pub record Plays {W : Type 0}
    (gives : W → Option DoubtNote → W → Type 0)
    (sees : W → Event → List ℕ → List ℕ → W → Type 0)
    (calls : List Call) (s t : Both) (v u : W) : Type 0 where
  pub steps : List Step
  pub calls_are : map (λ (x : Step). call_of x.event) steps ≡ calls
  pub each : Each s steps t
  pub seen : Seen gives sees v steps u
  pub law : (setting : ℕ) (l : Limits) (w : World) (r : Run setting l w)
      → host_side w ≡ s.host → tnc_side w ≡ s.tnc → GoesOn s steps r
