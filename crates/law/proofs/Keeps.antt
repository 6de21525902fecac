-- Each call keeps the invariant: the transmissions, and on each channel both ways.
use Rattle.std.proofs.Common.{◌≡◌, ℕ, zero, suc, ◌<◌, ◌≤◌, Bool, true, false, cond, ◌&&◌, ◌||◌, eqb, ltb, List, [], ◌∷◌, ◌++◌, length, Err, Result, sym, refl, ap, ◌∙◌, subst, append_assoc, append-nil, arith, eqb-true}
use mathlib.Core.Bool.{beq}
use borrow.Author.Tests.{eqb-false}
use Rattle.poll.specs.Channel.{last_channel}
use Rattle.frame.specs.Frame.{general, longest_block}
use Rattle.store.specs.declared.refusal.Refusal.TheVariants.{BadChannel, BadLength}
use Rattle.ends.specs.declared.refusal.Refusal.{Refusal}
use Rattle.ends.specs.declared.refusal.Refusal.TheVariants.{Store, NumbersUsed}
use Rattle.store.specs.Meaning.{Block, Meaning}
use Rattle.store.specs.Rules.{put_answer}
use Rattle.reader.specs.Read as reader
use Rattle.ends.specs.Limits.{last_number}
use Rattle.ends.specs.Frames.{Load, poll, information, command, Request, Reply, success, message, failure, block, other, Answer, Cargo, empty, holds, cargo_of, cargo_in, is_good}
use Rattle.ends.specs.Blocks.{granted, numbered, submit_answer}
use Rattle.ends.specs.Host.{State, fresh, opening, idle, on_its_way, down, Host, stays, Pick, pick, next_request, reset_request, aboard, aboard_on, goes_down, HostRule, opened, confirmed, block_refused, nothing_there, received, listed, no_room, falls, out_of_sequence_rule, to_block_rule, to_poll_rule, to_general, to_load, in_sequence, is_good_list, room_for, stores_in, by_hear}
use Rattle.ends.specs.Tnc.{TncRule, flagged, early, resets, again, accepts, tnc_rule, is_general_poll, reply_to, has_place, accepted_answer, reset_answer, out_after, by_tnc, no_place, no_channel}
use Rattle.law.specs.Runs.{Named, World, Limits, begin, request_at, answer_at, no_request, after_host, after_tnc, host_submits, tnc_submits, host_collects, tnc_collects, opens, steps, times, with_readers}
use Rattle.law.specs.Law.{delivered}
use Rattle.law.proofs.Steps.{host_heard, tnc_heard, at}
use Rattle.law.proofs.Stores.{joined_view, collect_same}
use Rattle.law.proofs.Sync.{Sync, never, book', sync_begin, sync_fall, sync_moved, sync_step, sync_open_new, sync_open_old, sync_again, sync_opens, sync_takes, sync_deaf, sync_held, sync_resets, sync_accepts}
use Rattle.law.proofs.Books.{block_in, carried, carried_empty, drop_c, doubt_at, confirm_at}
use Rattle.law.proofs.ToTnc.{carries, good_reply, if_good, ToTnc, up_begin, up_submit, up_open_new, up_step, up_confirmed, up_stays, up_fall, up_resets, up_accepts, step_waits, step_flag, step_toggle}
use Rattle.law.proofs.ToHost.{offers, ToHost, dn_begin, dn_submit, dn_fall, dn_open_old, dn_again, dn_open_new, dn_step, dn_opened, dn_taken, dn_resets, dn_accepts, reply_first}

-- transmissions by number: n, the one that the host is at; m, the last that the TNC heard; j, the lowest whose answer may
-- still pass; book: the frame of each; pend: this generation's reset has been sent
pub record Inv (w : World) : Type 0 where
  pub n : ℕ
  pub m : ℕ
  pub j : ℕ
  pub book : ℕ → Request
  pub pend : Bool
  pub sync : Sync n m j book pend w.host.state w.host.generation w.host.last w.tnc.ready w.tnc.last w.tnc.held w.up w.up_at w.dn w.dn_at
  pub to_tnc : (c : ℕ) → c ≤ last_channel → ToTnc c w.host.state n m book (good_reply w.tnc.held.reply) (w.to_tnc.submitted c) (w.to_tnc.named c) (w.host_out.waiting c) (w.host.gone c) (w.host.submitted c) (delivered w.to_tnc w.tnc_in c)
  pub to_host : (c : ℕ) → c ≤ last_channel → ToHost c w.host.state n m book (offers c w.tnc.held) (w.to_host.submitted c) (w.to_host.named c) (w.tnc_out.waiting c) (w.tnc.gone c) (w.tnc.submitted c) (delivered w.to_host w.host_in c)

pub begins : (setting : ℕ) (l : Limits) → Inv (begin setting l)
begins setting l = record { n = 0; m = 0; j = 0; book = λ k. no_request; pend = false; sync = sync_begin; to_tnc = λ c low. up_begin c _; to_host = λ c low. dn_begin c _ _ (carried_empty c general empty refl) }

-- submit and collect
submit_room :
    (s : ℕ → ℕ) (m : Meaning) (c x : ℕ) (b : Block) → (granted (submit_answer s m c b) && eqb x c) ≡ true → s x ≤ last_number → s x < last_number
submit_room s m c x b e le = go (ltb last_channel c) (eqb (length b.bytes) 0 || ltb longest_block (length b.bytes)) (eqb (s c) last_number) (eqb x c) refl refl e
  where
    no_and : (y : Bool) → (y && false) ≡ true → ⊥
    no_and true v = never v
    no_and false v = never v

    go : (d f g z : Bool) → eqb (s c) last_number ≡ g → eqb x c ≡ z → (granted (cond d (Err (Store BadChannel)) (cond f (Err (Store BadLength)) (cond g (Err NumbersUsed) (numbered (suc (s c)) (put_answer m c b))))) && z) ≡ true → s x < last_number
    go true f g z h r u = absurd (never u)
    go false true g z h r u = absurd (never u)
    go false false true z h r u = absurd (never u)
    go false false false false h r u = absurd (no_and _ u)
    go false false false true h r u = let q = eqb-false (s c) last_number h in let k : s x ≡ s c = ap s (eqb-true x c r) in omega arith

pub keeps_host_submit : (w : World) (c : ℕ) (b : Block) → Inv w → Inv (host_submits c b w)
keeps_host_submit w c b i = record { n = i.n; m = i.m; j = i.j; book = i.book; pend = i.pend; sync = i.sync; to_tnc = λ x low. rw (joined_view r w.host_out x c b) (go x low (granted r && eqb x c) refl); to_host = i.to_host }
  where
    r : Result ℕ Refusal
    r = submit_answer w.host.submitted w.host_out c b

    go : (x : ℕ) (low : x ≤ last_channel) (z : Bool) → (granted r && eqb x c) ≡ z → ToTnc x w.host.state i.n i.m i.book (good_reply w.tnc.held.reply) (cond z (w.to_tnc.submitted x ++ b ∷ []) (w.to_tnc.submitted x)) (w.to_tnc.named x) (cond z (w.host_out.waiting x ++ b ∷ []) (w.host_out.waiting x)) (w.host.gone x) (cond z (suc (w.host.submitted x)) (w.host.submitted x)) (delivered w.to_tnc w.tnc_in x)
    go x low true e = up_submit x w.host.state b (submit_room w.host.submitted w.host_out c x b e (i.to_tnc x low).books.most) (i.to_tnc x low)
    go x low false e = i.to_tnc x low

pub keeps_tnc_submit : (w : World) (c : ℕ) (b : Block) → Inv w → Inv (tnc_submits c b w)
keeps_tnc_submit w c b i = record { n = i.n; m = i.m; j = i.j; book = i.book; pend = i.pend; sync = i.sync; to_tnc = i.to_tnc; to_host = λ x low. rw (joined_view r w.tnc_out x c b) (go x low (granted r && eqb x c) refl) }
  where
    r : Result ℕ Refusal
    r = submit_answer w.tnc.submitted w.tnc_out c b

    go : (x : ℕ) (low : x ≤ last_channel) (z : Bool) → (granted r && eqb x c) ≡ z → ToHost x w.host.state i.n i.m i.book (offers x w.tnc.held) (cond z (w.to_host.submitted x ++ b ∷ []) (w.to_host.submitted x)) (w.to_host.named x) (cond z (w.tnc_out.waiting x ++ b ∷ []) (w.tnc_out.waiting x)) (w.tnc.gone x) (cond z (suc (w.tnc.submitted x)) (w.tnc.submitted x)) (delivered w.to_host w.host_in x)
    go x low true e = dn_submit x b (submit_room w.tnc.submitted w.tnc_out c x b e (i.to_host x low).books.most) (i.to_host x low)
    go x low false e = i.to_host x low

pub keeps_host_collect : (w : World) (c size : ℕ) → Inv w → Inv (host_collects c size w)
keeps_host_collect w c size i = record { n = i.n; m = i.m; j = i.j; book = i.book; pend = i.pend; sync = i.sync; to_tnc = i.to_tnc; to_host = λ x low. subst (λ (d : List Block). ToHost x w.host.state i.n i.m i.book (offers x w.tnc.held) (w.to_host.submitted x) (w.to_host.named x) (w.tnc_out.waiting x) (w.tnc.gone x) (w.tnc.submitted x) d) (collect_same w.to_host.collected w.host_in x c size low) (i.to_host x low) }

pub keeps_tnc_collect : (w : World) (c size : ℕ) → Inv w → Inv (tnc_collects c size w)
keeps_tnc_collect w c size i = record { n = i.n; m = i.m; j = i.j; book = i.book; pend = i.pend; sync = i.sync; to_tnc = λ x low. subst (λ (d : List Block). ToTnc x w.host.state i.n i.m i.book (good_reply w.tnc.held.reply) (w.to_tnc.submitted x) (w.to_tnc.named x) (w.host_out.waiting x) (w.host.gone x) (w.host.submitted x) d) (collect_same w.to_tnc.collected w.tnc_in x c size low) (i.to_tnc x low); to_host = i.to_host }

-- the link goes down
fall_on : (dn_next tries : ℕ) (w : World) → Inv w → Inv (after_host (goes_down w.host w.host_out w.host_in) w.dn_at dn_next tries w)
fall_on dn_next tries w i = record {
  n = i.n;
  m = i.m;
  j = i.j;
  book = i.book;
  pend = i.pend;
  sync = sync_fall i.sync;
  to_tnc = λ c low. doubt_at (λ (o : List Block) (k : ℕ) (x : List Named). ToTnc c down i.n i.m i.book (good_reply w.tnc.held.reply) (w.to_tnc.submitted c) x o k (w.host.submitted c) (delivered w.to_tnc w.tnc_in c)) c (aboard_on w.host.state) low w.host_out w.host.gone w.to_tnc.named (aboard w.host.state) (up_fall c w.host.state i.sync (i.to_tnc c low));
  to_host = λ c low. dn_fall c (i.to_host c low);
}

-- the frame at a place passes
abbrev pub PassesDn : ℕ → World → Type 0
PassesDn x w = (w.dn_at ≤ x) × (x < length w.dn)

abbrev pub PassesUp : ℕ → World → Type 0
PassesUp x w = (w.up_at ≤ x) × (x < length w.up)

-- an answer passes, and nothing else
abbrev moved_w : World → ℕ → ℕ → World
moved_w w x tries = after_host (stays w.host w.host_out w.host_in) x (suc x) tries w

moved : (w : World) (x tries : ℕ) → PassesDn x w → Inv w → Inv (moved_w w x tries)
moved w x tries ok i =
    let p = sync_moved w.host.state x ok.0 ok.1 i.sync in
    record { n = i.n; m = i.m; j = p.0; book = i.book; pend = i.pend; sync = p.3; to_tnc = i.to_tnc; to_host = i.to_host }

late_on : (w : World) (x tries sp : ℕ) (a : Answer) → Inv (moved_w w x tries) → Inv (after_host (by_hear (out_of_sequence_rule sp) a w.host w.host_out w.host_in) x (suc x) tries w)
late_on w x tries zero a i = fall_on (suc x) tries (moved_w w x tries) i
late_on w x tries (suc sp) a i = record { n = i.n; m = i.m; j = i.j; book = i.book; pend = i.pend; sync = i.sync; to_tnc = i.to_tnc; to_host = i.to_host }

-- step
step_on_keeps : (w : World) (st : State) → Inv (at w st) → Inv (steps (at w st))
step_on_keeps w fresh i = i
step_on_keeps w (opening r) i = i
step_on_keeps w idle i =
    let h : Host = (at w idle).host in
    let p : Pick = pick h.block_refused h.poll_list w.host_out.waiting in
    let f : Request = next_request h w.host_out in
    record {
      n = suc i.n;
      m = i.m;
      j = i.j;
      book = book' i.book i.n f;
      pend = false;
      sync = sync_step f (step_flag _ p) (step_toggle _ p) i.sync;
      to_tnc = λ c low. up_step c f i.sync.shape.0 (step_waits c _ h.block_refused h.poll_list w.host_out.waiting) (i.to_tnc c low);
      to_host = λ c low. dn_step c f i.sync.shape.0 (i.to_host c low);
    }
step_on_keeps w (on_its_way f r) i = i
step_on_keeps w down i = i

-- open
as_down : (w : World) → Inv (at w fresh) → Inv (at w down)
as_down w i = record { n = i.n; m = i.m; j = i.j; book = i.book; pend = i.pend; sync = sync_fall i.sync; to_tnc = λ c low. record { gone = (i.to_tnc c low).gone; books = (i.to_tnc c low).books; acct = (i.to_tnc c low).acct }; to_host = λ c low. dn_fall c (i.to_host c low) }

open_down : (w : World) (i : Inv (at w down)) (b : Bool) → i.pend ≡ b → Inv (opens (at w down))
open_down w i true e = record { n = i.n; m = i.m; j = i.j; book = i.book; pend = i.pend; sync = sync_open_old 0 e i.sync; to_tnc = λ c low. record { gone = (i.to_tnc c low).gone; books = (i.to_tnc c low).books; acct = (i.to_tnc c low).acct }; to_host = λ c low. dn_open_old c 0 (i.to_host c low) }
open_down w i false e = record { n = suc i.n; m = i.m; j = i.j; book = book' i.book i.n (reset_request w.host.generation); pend = true; sync = sync_open_new e i.sync; to_tnc = λ c low. up_open_new c (reset_request w.host.generation) 0 i.sync.mn refl (i.to_tnc c low); to_host = λ c low. dn_open_new c (reset_request w.host.generation) 0 i.sync.mn refl (i.to_host c low) }

open_on : (w : World) (st : State) → Inv (at w st) → Inv (opens (at w st))
open_on w fresh i = open_down w (as_down w i) _ refl
open_on w (opening r) i = i
open_on w idle i = i
open_on w (on_its_way f r) i = i
open_on w down i = open_down w i _ refl

-- the timer
timer_on : (w : World) (st : State) → Inv (at w st) → Inv (times (at w st))
timer_on w fresh i = i
timer_on w (opening r) i = go (ltb r w.host.setting) refl
  where
    go : (b : Bool) → ltb r w.host.setting ≡ b → Inv (times (at w (opening r)))
    go true e = rw e (record { n = i.n; m = i.m; j = i.j; book = i.book; pend = i.pend; sync = sync_open_old (suc r) i.sync.shape i.sync; to_tnc = λ c low. record { gone = (i.to_tnc c low).gone; books = (i.to_tnc c low).books; acct = (i.to_tnc c low).acct }; to_host = λ c low. dn_open_old c (suc r) (i.to_host c low) })
    go false e = rw e (fall_on w.dn_next w.tries (at w (opening r)) i)
timer_on w idle i = i
timer_on w (on_its_way f r) i = go (ltb r w.host.setting) refl
  where
    go : (b : Bool) → ltb r w.host.setting ≡ b → Inv (times (at w (on_its_way f r)))
    go true e = rw e (record { n = i.n; m = i.m; j = i.j; book = i.book; pend = i.pend; sync = sync_again f r i.sync; to_tnc = λ c low. record { gone = (i.to_tnc c low).gone; books = (i.to_tnc c low).books; acct = (i.to_tnc c low).acct }; to_host = λ c low. dn_again c f r (suc r) (i.to_host c low) })
    go false e = rw e (fall_on w.dn_next w.tries (at w (on_its_way f r)) i)
timer_on w down i = i

-- the host hears an answer in sequence: the rules, with what each tells
seq_elim :
    (f : Request) (room : Block → Bool) (a : Answer) (P : HostRule → Type 0)
    → (good_reply a.reply ≡ true → cargo_in a.reply ≡ empty → P confirmed)
    → (good_reply a.reply ≡ false → cargo_in a.reply ≡ empty → P block_refused)
    → (cargo_of f.load ≡ empty → cargo_in a.reply ≡ empty → P nothing_there)
    → (cargo_of f.load ≡ empty → (b : Block) → a.reply ≡ block b → room b ≡ true → P received)
    → (cargo_of f.load ≡ empty → cargo_in a.reply ≡ empty → P listed)
    → P no_room
    → P (falls 3)
    → P (in_sequence f room a)
seq_elim f room a P yc yu yn yr yl yf yd = chan (eqb a.channel f.channel) f.load a.reply refl refl
  where
    room? : (b : Bool) → (b ≡ true → P received) → P no_room → P (cond b received no_room)
    room? true p q = p refl
    room? false p q = q

    good? : (b : Bool) → P listed → P (falls 3) → P (cond b listed (falls 3))
    good? true p q = p
    good? false p q = q

    general? : (r : Reply) → a.reply ≡ r → cargo_of f.load ≡ empty → P (to_general r)
    general? success e h = yd
    general? (message l) e h = good? (is_good l) (yl h (ap cargo_in e)) yd
    general? (failure s) e h = yd
    general? (block b) e h = yd
    general? (other k s) e h = yd

    one_channel : (r : Reply) → a.reply ≡ r → cargo_of f.load ≡ empty → P (to_poll_rule room r)
    one_channel success e h = yn h (ap cargo_in e)
    one_channel (message l) e h = yd
    one_channel (failure s) e h = yd
    one_channel (block b) e h = room? (room b) (yr h b e) yf
    one_channel (other k s) e h = yd

    polls : (z : Bool) (r : Reply) → a.reply ≡ r → cargo_of f.load ≡ empty → P (cond z (to_general r) (to_poll_rule room r))
    polls true r e h = general? r e h
    polls false r e h = one_channel r e h

    blocks : (r : Reply) → a.reply ≡ r → P (to_block_rule r)
    blocks success e = yc (ap good_reply e) (ap cargo_in e)
    blocks (message l) e = yc (ap good_reply e) (ap cargo_in e)
    blocks (failure s) e = yu (ap good_reply e) (ap cargo_in e)
    blocks (block b) e = yd
    blocks (other k s) e = yd

    loads : (l : Load) (r : Reply) → f.load ≡ l → a.reply ≡ r → P (to_load l f.channel room r)
    loads poll r el er = polls (eqb f.channel general) r er (ap cargo_of el)
    loads (information b) r el er = blocks r er
    loads (command s) r el er = yd

    chan : (z : Bool) (l : Load) (r : Reply) → f.load ≡ l → a.reply ≡ r → P (cond z (to_load l f.channel room r) (falls 3))
    chan true l r el er = loads l r el er
    chan false l r el er = yd

if_good_false : (g : Bool) (y : Cargo) → g ≡ false → if_good g y ≡ empty
if_good_false g y e = rw e

if_good_empty : (g : Bool) (y : Cargo) → y ≡ empty → if_good g y ≡ empty
if_good_empty true y e = e
if_good_empty false y e = refl

-- a carried block in the receiving store, seen on channel c
stored_at : (k : List Block) (c c' : ℕ) (y : Cargo) (q : Meaning) → k ++ (stores_in c' y q).waiting c ≡ (k ++ q.waiting c) ++ block_in (if_good (has_place q c' y) (carried c c' y))
stored_at k c c' empty q = sym (append-nil (k ++ q.waiting c))
stored_at k c c' (holds b) q = ap (λ (l : List Block). k ++ l) (joined_view (put_answer q c' b) q c c' b) ∙ go (granted (put_answer q c' b)) (eqb c c')
  where
    go : (g z : Bool) → k ++ cond (g && z) (q.waiting c ++ b ∷ []) (q.waiting c) ≡ (k ++ q.waiting c) ++ block_in (if_good g (cond z (holds b) empty))
    go true true = sym (append_assoc k (q.waiting c) (b ∷ []))
    go true false = sym (append-nil (k ++ q.waiting c))
    go false z = sym (append-nil (k ++ q.waiting c))

module _ (w : World) (f : Request) (r x : ℕ) (ok : PassesDn x w) (i : Inv (at w (on_its_way f r))) (fl : (answer_at w x).reset ≡ false) (tg : beq (answer_at w x).toggle f.toggle ≡ true) where
  abbrev rule_w : HostRule → World
  rule_w rule = after_host (by_hear rule (answer_at w x) (at w (on_its_way f r)).host w.host_out w.host_in) x (suc x) w.tries (at w (on_its_way f r))

  mn : i.m ≡ i.n
  mn = (sync_takes f r x ok.0 ok.1 fl tg i.sync).0

  ah : answer_at w x ≡ w.tnc.held
  ah = (sync_takes f r x ok.0 ok.1 fl tg i.sync).1

  goods : (b : Bool) → good_reply (answer_at w x).reply ≡ b → good_reply w.tnc.held.reply ≡ b
  goods b e = ap (λ (z : Answer). good_reply z.reply) (sym ah) ∙ e

  bare : (c : ℕ) → cargo_in (answer_at w x).reply ≡ empty → offers c w.tnc.held ≡ empty
  bare c e = carried_empty c w.tnc.held.channel (cargo_in w.tnc.held.reply) (ap (λ (z : Answer). cargo_in z.reply) (sym ah) ∙ e)

  same : (c : ℕ) → cargo_in (answer_at w x).reply ≡ empty → delivered w.to_host w.host_in c ≡ delivered w.to_host w.host_in c ++ block_in (offers c w.tnc.held)
  same c e = sym (ap (λ (z : Cargo). delivered w.to_host w.host_in c ++ block_in z) (bare c e) ∙ append-nil _)

  take_confirmed : good_reply (answer_at w x).reply ≡ true → cargo_in (answer_at w x).reply ≡ empty → Inv (rule_w confirmed)
  take_confirmed g e = record {
    n = i.n;
    m = i.m;
    j = i.n;
    book = i.book;
    pend = false;
    sync = (sync_takes f r x ok.0 ok.1 fl tg i.sync).2;
    to_tnc = λ c low. confirm_at (λ (o : List Block) (k : ℕ) (y : List Named). ToTnc c idle i.n i.m i.book (good_reply w.tnc.held.reply) (w.to_tnc.submitted c) y o k (w.host.submitted c) (delivered w.to_tnc w.tnc_in c)) c f.channel low w.host_out w.host.gone w.to_tnc.named (cargo_of f.load) (up_confirmed c f r mn (goods true g) (i.to_tnc c low));
    to_host = λ c low. dn_taken c f r _ mn (same c e) (i.to_host c low);
  }

  take_block_refused : good_reply (answer_at w x).reply ≡ false → cargo_in (answer_at w x).reply ≡ empty → Inv (rule_w block_refused)
  take_block_refused g e = record {
    n = i.n;
    m = i.m;
    j = i.n;
    book = i.book;
    pend = false;
    sync = (sync_takes f r x ok.0 ok.1 fl tg i.sync).2;
    to_tnc = λ c low. up_stays c f r mn (if_good_false _ (carries c f) (goods false g)) (i.to_tnc c low);
    to_host = λ c low. dn_taken c f r _ mn (same c e) (i.to_host c low);
  }

  poll_stays : cargo_of f.load ≡ empty → (c : ℕ) → c ≤ last_channel → ToTnc c idle i.n i.m i.book (good_reply w.tnc.held.reply) (w.to_tnc.submitted c) (w.to_tnc.named c) (w.host_out.waiting c) (w.host.gone c) (w.host.submitted c) (delivered w.to_tnc w.tnc_in c)
  poll_stays h c low = up_stays c f r mn (if_good_empty _ (carries c f) (carried_empty c f.channel (cargo_of f.load) h)) (i.to_tnc c low)

  take_nothing_there : cargo_of f.load ≡ empty → cargo_in (answer_at w x).reply ≡ empty → Inv (rule_w nothing_there)
  take_nothing_there h e = record { n = i.n; m = i.m; j = i.n; book = i.book; pend = false; sync = (sync_takes f r x ok.0 ok.1 fl tg i.sync).2; to_tnc = poll_stays h; to_host = λ c low. dn_taken c f r _ mn (same c e) (i.to_host c low) }

  take_listed : cargo_of f.load ≡ empty → cargo_in (answer_at w x).reply ≡ empty → Inv (rule_w listed)
  take_listed h e = record { n = i.n; m = i.m; j = i.n; book = i.book; pend = false; sync = (sync_takes f r x ok.0 ok.1 fl tg i.sync).2; to_tnc = poll_stays h; to_host = λ c low. dn_taken c f r _ mn (same c e) (i.to_host c low) }

  take_received : cargo_of f.load ≡ empty → (b : Block) → (answer_at w x).reply ≡ block b → room_for w.host_in (answer_at w x).channel b ≡ true → Inv (rule_w received)
  take_received h b e room = record {
    n = i.n;
    m = i.m;
    j = i.n;
    book = i.book;
    pend = false;
    sync = (sync_takes f r x ok.0 ok.1 fl tg i.sync).2;
    to_tnc = poll_stays h;
    to_host = λ c low. dn_taken c f r _ mn (came c) (i.to_host c low);
  }
    where
      placed : has_place w.host_in (answer_at w x).channel (cargo_in (answer_at w x).reply) ≡ true
      placed = rw e room

      came : (c : ℕ) → w.to_host.collected c ++ (stores_in (answer_at w x).channel (cargo_in (answer_at w x).reply) w.host_in).waiting c ≡ delivered w.to_host w.host_in c ++ block_in (offers c w.tnc.held)
      came c =
          stored_at (w.to_host.collected c) c (answer_at w x).channel (cargo_in (answer_at w x).reply) w.host_in
          ∙ ap (λ (z : Bool). delivered w.to_host w.host_in c ++ block_in (if_good z (offers c (answer_at w x)))) placed
          ∙ ap (λ (z : Answer). delivered w.to_host w.host_in c ++ block_in (offers c z)) ah

  in_sequence_keeps : Inv (rule_w (in_sequence f (room_for w.host_in (answer_at w x).channel) (answer_at w x)))
  in_sequence_keeps =
      let past = moved (at w (on_its_way f r)) x w.tries ok i in
      seq_elim f (room_for w.host_in (answer_at w x).channel) (answer_at w x) (λ (rule : HostRule). Inv (rule_w rule)) take_confirmed take_block_refused take_nothing_there take_received take_listed past (fall_on (suc x) w.tries (moved_w (at w (on_its_way f r)) x w.tries) past)

-- the host hears the reset's answer
hear_opens : (w : World) (r x : ℕ) → PassesDn x w → Inv (at w (opening r)) → (answer_at w x).reset ≡ true → beq (answer_at w x).toggle w.host.generation ≡ true → Inv (after_host (by_hear opened (answer_at w x) (at w (opening r)).host w.host_out w.host_in) x (suc x) w.tries (at w (opening r)))
hear_opens w r x ok i fl tg =
    let p = sync_opens r x ok.0 ok.1 fl tg i.sync in
    record { n = i.n; m = i.m; j = i.n; book = i.book; pend = false; sync = p.2; to_tnc = λ c low. record { gone = (i.to_tnc c low).gone; books = (i.to_tnc c low).books; acct = (i.to_tnc c low).acct }; to_host = λ c low. dn_opened c (carried_empty c w.tnc.held.channel (cargo_in w.tnc.held.reply) (i.sync.bare p.1)) p.0 (i.to_host c low) }

hear_on : (w : World) (st : State) (x : ℕ) → PassesDn x w → Inv (at w st) → Inv (host_heard (answer_at w x) x (at w st))
hear_on w fresh x ok i = moved (at w fresh) x w.tries ok i
hear_on w (opening r) x ok i = go (answer_at w x).reset (beq (answer_at w x).toggle w.host.generation) (eqb (answer_at w x).channel general && is_good_list (answer_at w x).reply) refl refl refl
  where
    stays : Inv (moved_w (at w (opening r)) x w.tries)
    stays = moved (at w (opening r)) x w.tries ok i

    go : (a b d : Bool) → (answer_at w x).reset ≡ a → beq (answer_at w x).toggle w.host.generation ≡ b → (eqb (answer_at w x).channel general && is_good_list (answer_at w x).reply) ≡ d → Inv (host_heard (answer_at w x) x (at w (opening r)))
    go true true true e h g = rw (e, h, g) (hear_opens w r x ok i e h)
    go true true false e h g = rw (e, h, g) stays
    go true false d e h g = rw (e, h) stays
    go false b d e h g = rw e stays
hear_on w idle x ok i = late_on (at w idle) x w.tries w.host.spare (answer_at w x) (moved (at w idle) x w.tries ok i)
hear_on w (on_its_way f r) x ok i = go (answer_at w x).reset (beq (answer_at w x).toggle f.toggle) refl refl
  where
    lates : Inv (after_host (by_hear (out_of_sequence_rule w.host.spare) (answer_at w x) (at w (on_its_way f r)).host w.host_out w.host_in) x (suc x) w.tries (at w (on_its_way f r)))
    lates = late_on (at w (on_its_way f r)) x w.tries w.host.spare (answer_at w x) (moved (at w (on_its_way f r)) x w.tries ok i)

    go : (a b : Bool) → (answer_at w x).reset ≡ a → beq (answer_at w x).toggle f.toggle ≡ b → Inv (host_heard (answer_at w x) x (at w (on_its_way f r)))
    go true b e h = rw e lates
    go false true e h = rw (e, h) (in_sequence_keeps w f r x ok i e h)
    go false false e h = rw (e, h) lates
hear_on w down x ok i = moved (at w down) x w.tries ok i

-- the TNC hears a frame
abbrev told_w : World → ℕ → TncRule → World
told_w w x rule = after_tnc (by_tnc rule (request_at w x) w.tnc w.tnc_out w.tnc_in) x w

deaf : (w : World) (x : ℕ) → PassesUp x w → Inv w → Inv (told_w w x flagged)
deaf w x ok i = record { n = i.n; m = i.m; j = i.j; book = i.book; pend = i.pend; sync = sync_deaf x ok.0 ok.1 i.sync; to_tnc = i.to_tnc; to_host = i.to_host }

tells_again : (w : World) (x : ℕ) → PassesUp x w → Inv w → w.tnc.ready ≡ true → Inv (told_w w x again)
tells_again w x ok i rd = record { n = i.n; m = i.m; j = i.j; book = i.book; pend = i.pend; sync = sync_held x ok.0 ok.1 rd i.sync; to_tnc = i.to_tnc; to_host = i.to_host }

tells_reset : (w : World) (x : ℕ) → PassesUp x w → Inv w → (request_at w x).reset ≡ true → Inv (told_w w x resets)
tells_reset w x ok i fl =
    let a : Answer = reset_answer (request_at w x) w.tnc w.tnc_out in
    let p = sync_resets w.host.state x a ok.0 ok.1 fl refl refl refl i.sync in
    record {
      n = i.n;
      m = p.0;
      j = i.j;
      book = i.book;
      pend = i.pend;
      sync = p.4;
      to_tnc = λ c low. up_resets c w.host.state p.0 true i.sync p.1 p.2 p.3 (i.to_tnc c low);
      to_host = λ c low. doubt_at (λ (o : List Block) (k : ℕ) (y : List Named). ToHost c w.host.state i.n p.0 i.book (offers c a) (w.to_host.submitted c) y o k (w.tnc.submitted c) (delivered w.to_host w.host_in c)) c w.tnc.held.channel low w.tnc_out w.tnc.gone w.to_host.named (cargo_in w.tnc.held.reply) (dn_resets c w.host.state p.0 (offers c a) (carried_empty c (request_at w x).channel empty refl) (i.to_host c low));
    }

-- a block that a store takes is on a channel
no_general : (m : Meaning) (c : ℕ) (b : Block) → eqb c general ≡ true → room_for m c b ≡ false
no_general m c b e = rw (eqb-true c general e) refl

-- the reply is good exactly if the block was placed
good_place : (c : ℕ) (l : Load) (c' : ℕ) (inn out : Meaning) → if_good (has_place inn c' (cargo_of l)) (carried c c' (cargo_of l)) ≡ if_good (good_reply (reply_to l c' (has_place inn c' (cargo_of l)) out)) (carried c c' (cargo_of l))
good_place c poll c' inn out = sym (if_good_empty _ _ (carried_empty c c' empty refl))
good_place c (information b) c' inn out = ap (λ (z : Bool). if_good z (carried c c' (holds b))) (go (eqb c' general) (room_for inn c' b) refl refl)
  where
    go : (z p : Bool) → eqb c' general ≡ z → room_for inn c' b ≡ p → p ≡ good_reply (cond z (failure no_channel) (cond p success (failure no_place)))
    go true true e h = absurd (never (sym (no_general inn c' b e) ∙ h))
    go true false e h = refl
    go false true e h = refl
    go false false e h = refl
good_place c (command s) c' inn out = refl

tells_accept : (w : World) (x : ℕ) → PassesUp x w → Inv w → (request_at w x).reset ≡ false → w.tnc.ready ≡ true → beq (request_at w x).toggle w.tnc.last ≡ false → Inv (told_w w x accepts)
tells_accept w x ok i fl rd tg =
    let f : Request = request_at w x in
    let q : Meaning = out_after accepts w.tnc w.tnc_out in
    let a : Answer = accepted_answer f w.tnc w.tnc_out w.tnc_in in
    let p = sync_accepts w.host.state x a ok.0 ok.1 fl rd tg refl refl i.sync in
    record {
      n = i.n;
      m = suc i.m;
      j = i.j;
      book = i.book;
      pend = i.pend;
      sync = p.3;
      to_tnc = λ c low. subst (λ (d : List Block). ToTnc c w.host.state i.n (suc i.m) i.book (good_reply a.reply) (w.to_tnc.submitted c) (w.to_tnc.named c) (w.host_out.waiting c) (w.host.gone c) (w.host.submitted c) d)
          (sym (stored_at (w.to_tnc.collected c) c f.channel (cargo_of f.load) w.tnc_in ∙ ap (λ (z : Cargo). delivered w.to_tnc w.tnc_in c ++ block_in z) (good_place c f.load f.channel w.tnc_in q ∙ ap (λ (z : Request). if_good (good_reply a.reply) (carries c z)) p.1)))
          (up_accepts c w.host.state (good_reply a.reply) i.sync p.0 p.2 (i.to_tnc c low));
      to_host = λ c low.
          let e : q.waiting c ≡ drop_c (offers c w.tnc.held) (w.tnc_out.waiting c) = confirm_at (λ (o : List Block) (k : ℕ) (y : List Named). o ≡ drop_c (offers c w.tnc.held) (w.tnc_out.waiting c)) c w.tnc.held.channel low w.tnc_out w.tnc.gone w.to_host.named (cargo_in w.tnc.held.reply) refl in
          let o = reply_first c f.load f.channel (has_place w.tnc_in f.channel (cargo_of f.load)) q in
          confirm_at (λ (o : List Block) (k : ℕ) (y : List Named). ToHost c w.host.state i.n (suc i.m) i.book (offers c a) (w.to_host.submitted c) y o k (w.tnc.submitted c) (delivered w.to_host w.host_in c)) c w.tnc.held.channel low w.tnc_out w.tnc.gone w.to_host.named (cargo_in w.tnc.held.reply) (dn_accepts c w.host.state (offers c a) i.sync p.0 p.2 (o.0, sym e ∙ o.1) (i.to_host c low));
    }

tnc_on : (w : World) (x : ℕ) → PassesUp x w → Inv w → Inv (tnc_heard (request_at w x) x w)
tnc_on w x ok i = go (request_at w x).reset (is_general_poll (request_at w x)) w.tnc.ready (beq (request_at w x).toggle w.tnc.last) refl refl refl refl
  where
    by : (rule : TncRule) → tnc_rule w.tnc (request_at w x) ≡ rule → Inv (told_w w x rule) → Inv (tnc_heard (request_at w x) x w)
    by rule e z = subst (λ (y : TncRule). Inv (told_w w x y)) (sym e) z

    go : (a g b d : Bool) → (request_at w x).reset ≡ a → is_general_poll (request_at w x) ≡ g → w.tnc.ready ≡ b → beq (request_at w x).toggle w.tnc.last ≡ d → Inv (tnc_heard (request_at w x) x w)
    go true true b d e p h k = by resets (rw (e, p)) (tells_reset w x ok i e)
    go true false b d e p h k = by flagged (rw (e, p)) (deaf w x ok i)
    go false g false d e p h k = by early (rw (e, h)) (deaf w x ok i)
    go false g true true e p h k = by again (rw (e, h, k)) (tells_again w x ok i h)
    go false g true false e p h k = by accepts (rw (e, h, k)) (tells_accept w x ok i e h k)

-- the readers are no part of the invariant
pub with_readers_keeps : (hr tr : reader.Meaning) (w : World) → Inv w → Inv (with_readers hr tr w)
with_readers_keeps hr tr w i = record { n = i.n; m = i.m; j = i.j; book = i.book; pend = i.pend; sync = i.sync; to_tnc = i.to_tnc; to_host = i.to_host }

-- the calls, with the frames that hears pass on
pub keeps_open : (w : World) → Inv w → Inv (opens w)
keeps_open w i = open_on w w.host.state i

pub keeps_step : (w : World) → Inv w → Inv (steps w)
keeps_step w i = step_on_keeps w w.host.state i

pub keeps_timer : (w : World) → Inv w → Inv (times w)
keeps_timer w i = timer_on w w.host.state i

pub keeps_host_hear : (w : World) (x : ℕ) → PassesDn x w → Inv w → Inv (host_heard (answer_at w x) x w)
keeps_host_hear w x ok i = hear_on w w.host.state x ok i

pub keeps_tnc_hear : (w : World) (x : ℕ) → PassesUp x w → Inv w → Inv (tnc_heard (request_at w x) x w)
keeps_tnc_hear w x ok i = tnc_on w x ok i
