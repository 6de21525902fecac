-- Every frame that a run has written can be sent; so its body is read as that frame.
use Rattle.std.proofs.Common.{◌≡◌, ℕ, zero, suc, ◌<◌, ◌≤◌, Bool, true, false, cond, ◌||◌, eqb, ltb, List, [], ◌∷◌, ◌++◌, length, drop, Some, None, Ok, Err, Option, Result, sym, refl, ap, ◌∙◌, subst, inl, inr, arith}
use Rattle.std.specs.List.{AllByRecursion}
use Rattle.std.proofs.ByRecursion.{All-get_or, All-push, All-drop}
use Rattle.std.proofs.lemmas.Bool.{false≢true, ltb-false, eqb-true, eqb-false, or_parts, cond_both}
use Rattle.poll.specs.Channel.{last_channel, channels}
use Rattle.frame.specs.declared.form.Form.TheVariants.{Text}
use Rattle.frame.specs.Frame.{general, longest_block, longest_text, Carries}
use Rattle.wire.specs.Wire.{longest_wire}
use Rattle.reader.specs.Read as reader
use Rattle.store.specs.declared.refusal.Refusal.TheVariants.{BadChannel, BadLength}
use Rattle.store.specs.Meaning.{Block, Meaning, with_channel}
use Rattle.store.specs.Rules.{if_granted, joined, drop_answer, shortened, drop_after}
use Rattle.ends.specs.declared.refusal.Refusal.{Refusal}
use Rattle.ends.specs.declared.refusal.Refusal.TheVariants.{Store}
use Rattle.ends.specs.Frames.{Load, poll, information, command, Request, Reply, success, message, failure, block, other, Answer, request_body, answer_body, request_read, answer_read, cargo_of, is_good, listed_channels, Written, nothing, one}
use Rattle.ends.specs.Blocks.{Word, silent, confirms, doubts, leaves, granted, submit_answer, submit_store}
use Rattle.ends.specs.Host.{State, fresh, opening, idle, on_its_way, down, HostStep, stays, goes_down, loss_word, confirm_word, Sending, not_allowed, sends, sends_again, gives_up, open_rule, step_rule, timer_rule, Pick, poll_after_refusal, channel_poll, send_block_of, general_poll, or_else, lowest_below, pick, list_after, request_for, next_request, one_repeat, sent_again, by_open, by_step, by_timer, HostRule, stale, spare_used, opened, confirmed, block_refused, nothing_there, received, listed, no_room, falls, host_rule, list_in, by_hear}
use Rattle.ends.specs.Tnc.{no_answer, TncStep, TncRule, flagged, early, resets, again, accepts, tnc_rule, tnc_word, no_place, no_channel, list_for, offer, has_place, reply_to, out_after, answer_to, by_tnc}
use Rattle.law.specs.Runs.{World, Limits, Call, host_open, host_step, host_timer, host_hear, host_submit, host_submit_again, host_collect, tnc_hear, tnc_submit, tnc_collect, host_passes, tnc_passes, with_written, after_host, with_readers, host_hears, tnc_hears, host_submits, tnc_submits, host_collects, tnc_collects, in_buffer, act, no_request, request_at, answer_at, opens, steps, times, Allowed, Run, start, after}
use Rattle.ends.proofs.Fit.{FitBlock, FitLoad, FitReply, FitRequest, FitAnswer, goods, list_good, request_trip, answer_trip}

-- a store of blocks that can be sent on their channels
abbrev pub Stock : Meaning → Type 0
Stock m = (c : ℕ) → AllByRecursion (FitBlock c) (m.waiting c)

abbrev pub Low : ℕ → Type 0
Low c = c ≤ last_channel

-- a frame on its way, and one that a call writes, if any
abbrev pub FitState : State → Type 0
FitState fresh = Unit {0}
FitState (opening r) = Unit {0}
FitState idle = Unit {0}
FitState (on_its_way q r) = FitRequest q
FitState down = Unit {0}

abbrev Wrote : {A : Type 0} → (A → Type 0) → Written A → Type 0
Wrote P nothing = Unit {0}
Wrote P (one f) = P f

pub record Fits (w : World) : Type 0 where
  pub host_out : Stock w.host_out
  pub tnc_out : Stock w.tnc_out
  pub poll_list : AllByRecursion Low w.host.poll_list
  pub sent : FitState w.host.state
  pub held : FitAnswer w.tnc.held
  pub up : AllByRecursion FitRequest w.up
  pub dn : AllByRecursion FitAnswer w.dn

-- STORES

stock_with : (m : Meaning) (c : ℕ) (bs : List Block) → Stock m → AllByRecursion (FitBlock c) bs → Stock (with_channel m c bs)
stock_with m c bs s a k =
    cond_both (eqb k c) bs (m.waiting k) (AllByRecursion (FitBlock k)) (λ e. subst (λ (n : ℕ). AllByRecursion (FitBlock n) bs) (sym (eqb-true k c e)) a) (λ e. s k)

stock_granted : {X E : Type 0} (r : Result X E) (m n : Meaning) → (granted r ≡ true → Stock m) → Stock n → Stock (if_granted r m n)
stock_granted (Ok x) m n f s = f refl
stock_granted (Err e) m n f s = s

stock_drop : (m : Meaning) (c : ℕ) → Stock m → Stock (drop_after m c)
stock_drop m c s =
    stock_granted (drop_answer m c) (shortened m c) m (λ e. stock_with m c (drop 1 (m.waiting c)) s (All-drop (FitBlock c) 1 (m.waiting c) (s c))) s

stock_word : (x : Word) (m : Meaning) → Stock m → Stock (leaves x m)
stock_word silent m s = s
stock_word (confirms c n) m s = stock_drop m c s
stock_word (doubts c n) m s = stock_drop m c s

-- a block whose submission is granted can be sent
submit_fit : (submitted : ℕ → ℕ) (m : Meaning) (c : ℕ) (b : Block) → granted (submit_answer submitted m c b) ≡ true → FitBlock c b
submit_fit submitted m c b e = go (ltb last_channel c) (eqb n 0 || ltb longest_block n) _ refl refl e
  where
    n : ℕ
    n = length b.bytes

    go : (x y : Bool) (r : Result ℕ Refusal) → ltb last_channel c ≡ x → (eqb n 0 || ltb longest_block n) ≡ y
        → granted (cond x (Err (Store BadChannel)) (cond y (Err (Store BadLength)) r)) ≡ true → FitBlock c b
    go true y r h g e = absurd (false≢true e)
    go false true r h g e = absurd (false≢true e)
    go false false r h g e =
        let p = or_parts (eqb n 0) (ltb longest_block n) g in
        let some = eqb-false n 0 p.0 in
        (ltb-false last_channel c h, (omega arith, ltb-false longest_block n p.1))

stock_submit : (submitted : ℕ → ℕ) (m : Meaning) (c : ℕ) (b : Block) → Stock m → Stock (submit_store submitted m c b)
stock_submit submitted m c b s =
    stock_granted (submit_answer submitted m c b) (joined m c b) m
    (λ e. stock_with m c (m.waiting c ++ b ∷ []) s (All-push (FitBlock c) (m.waiting c) b (s c) (submit_fit submitted m c b e))) s

-- THE HOST

list_low : (t : List ℕ) → is_good t ≡ true → AllByRecursion Low (listed_channels t)
list_low [] e = tt
list_low (v ∷ t) e = let g = goods v t e in (omega arith, list_low t g.rest)

list_in_low : (c : ℕ) (r : Reply) → FitReply c r → AllByRecursion Low (list_in r)
list_in_low c success f = tt
list_in_low c (message t) f = list_low t f
list_in_low c (failure t) f = tt
list_in_low c (block b) f = tt
list_in_low c (other code p) f = tt

record FitHost (s : HostStep) : Type 0 where
  out : Stock s.out
  poll_list : AllByRecursion Low s.host.poll_list
  sent : FitState s.host.state
  wrote : Wrote FitRequest s.wrote

-- what step picks
abbrev FitPick : Pick → Type 0
FitPick poll_after_refusal = Unit {0}
FitPick (channel_poll c) = Low c
FitPick (send_block_of c b) = FitBlock c b
FitPick general_poll = Unit {0}

fit_else : (p : Pick) (bs : List Block) (c : ℕ) → FitPick p → AllByRecursion (FitBlock c) bs → FitPick (or_else p bs c)
fit_else poll_after_refusal bs c f a = tt
fit_else (channel_poll k) bs c f a = f
fit_else (send_block_of k b) bs c f a = f
fit_else general_poll [] c f a = tt
fit_else general_poll (b ∷ bs) c f a = a.0

fit_lowest : (n : ℕ) (m : Meaning) → Stock m → FitPick (lowest_below n m.waiting)
unfolding lowest_below
fit_lowest zero m s = tt
fit_lowest (suc n) m s = fit_else (lowest_below n m.waiting) (m.waiting n) n (fit_lowest n m s) (s n)

fit_pick : (refused : Bool) (l : List ℕ) (m : Meaning) → AllByRecursion Low l → Stock m → FitPick (pick refused l m.waiting)
fit_pick true l m a s = tt
fit_pick false [] m a s = fit_lowest channels m s
fit_pick false (c ∷ l) m a s = a.0

fit_request : (t : Bool) (p : Pick) → FitPick p → FitRequest (request_for t p)
fit_request t poll_after_refusal f = record { place = inr refl; shape = tt }
fit_request t (channel_poll c) f = record { place = inl f; shape = tt }
fit_request t (send_block_of c b) f = record { place = inl f.0; shape = f }
fit_request t general_poll f = record { place = inr refl; shape = tt }

list_after_low : (refused : Bool) (l : List ℕ) → AllByRecursion Low l → AllByRecursion Low (list_after refused l)
list_after_low true l a = a
list_after_low false [] a = tt
list_after_low false (c ∷ l) a = a.1

again_state : (s : State) → FitState s → FitState (one_repeat s)
again_state fresh f = tt
again_state (opening r) f = tt
again_state idle f = tt
again_state (on_its_way q r) f = f
again_state down f = tt

again_wrote : (s : State) (g : Bool) → FitState s → Wrote FitRequest (sent_again s g)
again_wrote fresh g f = tt
again_wrote (opening r) g f = record { place = inr refl; shape = tt }
again_wrote idle g f = tt
again_wrote (on_its_way q r) g f = f
again_wrote down g f = tt

module _ (w : World) (f : Fits w) where
  fit_stays : FitHost (stays w.host w.host_out w.host_in)
  fit_stays = record { out = f.host_out; poll_list = f.poll_list; sent = f.sent; wrote = tt }

  fit_down : FitHost (goes_down w.host w.host_out w.host_in)
  fit_down = record { out = stock_word (loss_word w.host) w.host_out f.host_out; poll_list = f.poll_list; sent = tt; wrote = tt }

  fit_open : (r : Sending) → FitHost (by_open r w.host w.host_out w.host_in)
  fit_open not_allowed = fit_stays
  fit_open sends = record { out = f.host_out; poll_list = tt; sent = tt; wrote = record { place = inr refl; shape = tt } }
  fit_open sends_again = fit_stays
  fit_open gives_up = fit_stays

  fit_next : FitRequest (next_request w.host w.host_out)
  fit_next = fit_request _ _ (fit_pick w.host.block_refused w.host.poll_list w.host_out f.poll_list f.host_out)

  fit_step : (r : Sending) → FitHost (by_step r w.host w.host_out w.host_in)
  fit_step not_allowed = fit_stays
  fit_step sends = record { out = f.host_out; poll_list = list_after_low w.host.block_refused w.host.poll_list f.poll_list; sent = fit_next; wrote = fit_next }
  fit_step sends_again = fit_stays
  fit_step gives_up = fit_stays

  fit_timer : (r : Sending) → FitHost (by_timer r w.host w.host_out w.host_in)
  fit_timer not_allowed = fit_stays
  fit_timer sends = fit_stays
  fit_timer sends_again = record { out = f.host_out; poll_list = f.poll_list; sent = again_state w.host.state f.sent; wrote = again_wrote w.host.state w.host.generation f.sent }
  fit_timer gives_up = fit_down

  fit_hear : (r : HostRule) (a : Answer) → FitAnswer a → FitHost (by_hear r a w.host w.host_out w.host_in)
  fit_hear stale a h = fit_stays
  fit_hear spare_used a h = record { out = f.host_out; poll_list = f.poll_list; sent = f.sent; wrote = tt }
  fit_hear opened a h = record { out = f.host_out; poll_list = list_in_low a.channel a.reply h.shape; sent = tt; wrote = tt }
  fit_hear confirmed a h = record { out = stock_word (confirm_word w.host) w.host_out f.host_out; poll_list = f.poll_list; sent = tt; wrote = tt }
  fit_hear block_refused a h = record { out = f.host_out; poll_list = f.poll_list; sent = tt; wrote = tt }
  fit_hear nothing_there a h = record { out = f.host_out; poll_list = f.poll_list; sent = tt; wrote = tt }
  fit_hear received a h = record { out = f.host_out; poll_list = f.poll_list; sent = tt; wrote = tt }
  fit_hear listed a h = record { out = f.host_out; poll_list = list_in_low a.channel a.reply h.shape; sent = tt; wrote = tt }
  fit_hear no_room a h = fit_stays
  fit_hear (falls cause) a h = fit_down

-- THE TNC

record FitTnc (s : TncStep) : Type 0 where
  out : Stock s.out
  held : FitAnswer s.tnc.held
  wrote : Wrote FitAnswer s.wrote

fit_offer : (c : ℕ) (bs : List Block) → AllByRecursion (FitBlock c) bs → FitReply c (offer bs)
fit_offer c [] a = tt
fit_offer c (b ∷ bs) a = a.0

fit_text : (t : List ℕ) → length t ≤ longest_text → AllByRecursion (λ x. 1 ≤ x) t → Carries Text t
fit_text t h a = (h, λ k l e. omega (arith, All-get_or (λ x. 1 ≤ x) t k 0 l a))

fit_reply : (l : Load) (c : ℕ) (place : Bool) (out : Meaning) → FitLoad c l → Stock out → FitReply c (reply_to l c place out)
fit_reply poll c place out f s =
    cond_both (eqb c general) (message (list_for out)) (offer (out.waiting c)) (FitReply c) (λ e. list_good out) (λ e. fit_offer c (out.waiting c) (s c))
fit_reply (information b) c place out f s =
    cond_both (eqb c general) (failure no_channel) (cond place success (failure no_place)) (FitReply c) (λ e. fit_text no_channel (omega arith) (omega arith))
    (λ e. cond_both place success (failure no_place) (FitReply c) (λ t. tt) (λ t. fit_text no_place (omega arith) (omega arith)))
fit_reply (command p) c place out f s = absurd f

module _ (w : World) (f : Fits w) where
  fit_tnc : (r : TncRule) (q : Request) → FitRequest q → FitTnc (by_tnc r q w.tnc w.tnc_out w.tnc_in)
  fit_tnc flagged q h = record { out = f.tnc_out; held = f.held; wrote = tt }
  fit_tnc early q h = record { out = f.tnc_out; held = f.held; wrote = tt }
  fit_tnc resets q h =
      let left = out_after resets w.tnc w.tnc_out in
      let a : FitAnswer (answer_to q (message (list_for left))) = record { place = h.place; shape = list_good left } in
      record { out = stock_word (tnc_word resets w.tnc) w.tnc_out f.tnc_out; held = a; wrote = a }
  fit_tnc again q h = record { out = f.tnc_out; held = f.held; wrote = f.held }
  fit_tnc accepts q h =
      let left = out_after accepts w.tnc w.tnc_out in
      let out : Stock left = stock_word (tnc_word accepts w.tnc) w.tnc_out f.tnc_out in
      let place = has_place w.tnc_in q.channel (cargo_of q.load) in
      let a : FitAnswer (answer_to q (reply_to q.load q.channel place left)) =
      record { place = h.place; shape = fit_reply q.load q.channel place left h.shape out } in
      record { out = out; held = a; wrote = a }

-- RUNS

all_written : {A : Type 0} (P : A → Type 0) (l : List A) (x : Written A) → AllByRecursion P l → Wrote P x → AllByRecursion P (with_written l x)
all_written P l nothing a p = a
all_written P l (one f) a p = All-push P l f a p

module _ (w : World) (f : Fits w) where
  -- a frame written fits, so its body is read as it
  pub request_fit : (i : ℕ) → i < length w.up → FitRequest (request_at w i)
  request_fit i h = All-get_or FitRequest w.up i no_request h f.up

  pub answer_fit : (i : ℕ) → i < length w.dn → FitAnswer (answer_at w i)
  answer_fit i h = All-get_or FitAnswer w.dn i no_answer h f.dn

  request_read_fit : (i : ℕ) → i < length w.up → request_read (request_body (request_at w i)) ≡ request_at w i
  request_read_fit i h = request_trip (request_at w i) (request_fit i h)

  answer_read_fit : (i : ℕ) → i < length w.dn → answer_read (answer_body (answer_at w i)) ≡ answer_at w i
  answer_read_fit i h = answer_trip (answer_at w i) (answer_fit i h)

  fit_host : (s : HostStep) (i j k : ℕ) → FitHost s → Fits (after_host s i j k w)
  fit_host s i j k h = record {
    host_out = h.out;
    tnc_out = f.tnc_out;
    poll_list = h.poll_list;
    sent = h.sent;
    held = f.held;
    up = all_written FitRequest w.up s.wrote f.up h.wrote;
    dn = f.dn;
  }

  -- a body that passes is that of a frame written
  host_hears_fit : (i : ℕ) (o : Option (List ℕ))
      → ((body : List ℕ) → o ≡ Some body → (w.dn_at ≤ i) × (i < length w.dn) × (body ≡ answer_body (answer_at w i)))
      → Fits (host_hears o i w)
  host_hears_fit i None ok = f
  host_hears_fit i (Some body) ok =
      let k = ok body refl in
      let a : FitAnswer (answer_read body) = subst FitAnswer (sym (ap answer_read k.2 ∙ answer_read_fit i k.1)) (answer_fit i k.1) in
      fit_host _ i (suc i) w.tries (fit_hear w f (host_rule w.host w.host_in (answer_read body)) (answer_read body) a)

  tnc_hears_fit : (i : ℕ) (o : Option (List ℕ))
      → ((body : List ℕ) → o ≡ Some body → (w.up_at ≤ i) × (i < length w.up) × (body ≡ request_body (request_at w i)))
      → Fits (tnc_hears o i w)
  tnc_hears_fit i None ok = f
  tnc_hears_fit i (Some body) ok =
      let k = ok body refl in
      let q : FitRequest (request_read body) = subst FitRequest (sym (ap request_read k.2 ∙ request_read_fit i k.1)) (request_fit i k.1) in
      let h = fit_tnc w f (tnc_rule w.tnc (request_read body)) (request_read body) q in
      record {
        host_out = f.host_out;
        tnc_out = h.out;
        poll_list = f.poll_list;
        sent = f.sent;
        held = h.held;
        up = f.up;
        dn = all_written FitAnswer w.dn _ f.dn h.wrote;
      }

  -- other readers and incoming stores do not matter
  fit_readers : (hr tr : reader.Meaning) → Fits (with_readers hr tr w)
  fit_readers hr tr = record { host_out = f.host_out; tnc_out = f.tnc_out; poll_list = f.poll_list; sent = f.sent; held = f.held; up = f.up; dn = f.dn }

  fit_host_collect : (c size : ℕ) → Fits (host_collects c size w)
  fit_host_collect c size = record { host_out = f.host_out; tnc_out = f.tnc_out; poll_list = f.poll_list; sent = f.sent; held = f.held; up = f.up; dn = f.dn }

  fit_tnc_collect : (c size : ℕ) → Fits (tnc_collects c size w)
  fit_tnc_collect c size = record { host_out = f.host_out; tnc_out = f.tnc_out; poll_list = f.poll_list; sent = f.sent; held = f.held; up = f.up; dn = f.dn }

  fit_host_submit : (c : ℕ) (b : Block) → Fits (host_submits c b w)
  fit_host_submit c b = record {
    host_out = stock_submit w.host.submitted w.host_out c b f.host_out;
    tnc_out = f.tnc_out;
    poll_list = f.poll_list;
    sent = f.sent;
    held = f.held;
    up = f.up;
    dn = f.dn;
  }

  fit_tnc_submit : (c : ℕ) (b : Block) → Fits (tnc_submits c b w)
  fit_tnc_submit c b = record {
    host_out = f.host_out;
    tnc_out = stock_submit w.tnc.submitted w.tnc_out c b f.tnc_out;
    poll_list = f.poll_list;
    sent = f.sent;
    held = f.held;
    up = f.up;
    dn = f.dn;
  }

  fit_buffer : (size : ℕ) (v : World) → Fits v → Fits (in_buffer size w v)
  fit_buffer size v g = cond_both (ltb size longest_wire) w v Fits (λ e. f) (λ e. g)

fit_after : (w : World) → Fits w → (c : Call) → Allowed c w → Fits (act c w)
fit_after w f (host_open size) ok = fit_buffer w f size (opens w) (fit_host w f _ _ _ _ (fit_open w f (open_rule w.host.state)))
fit_after w f (host_step size) ok = fit_buffer w f size (steps w) (fit_host w f _ _ _ _ (fit_step w f (step_rule w.host.state)))
fit_after w f (host_timer size) ok = fit_buffer w f size (times w) (fit_host w f _ _ _ _ (fit_timer w f (timer_rule w.host.setting w.host.state)))
fit_after w f (host_hear byte i) ok = fit_readers (host_hears (host_passes byte w) i w) (host_hears_fit w f i (host_passes byte w) ok) _ _
fit_after w f (host_submit c b) ok = fit_host_submit w f c b
fit_after w f (host_submit_again c n b) ok = fit_host_submit w f c b
fit_after w f (host_collect c size) ok = fit_host_collect w f c size
fit_after w f (tnc_hear size byte i) ok =
    fit_buffer w f size _ (fit_readers (tnc_hears (tnc_passes size byte w) i w) (tnc_hears_fit w f i (tnc_passes size byte w) ok) _ _)
fit_after w f (tnc_submit c b) ok = fit_tnc_submit w f c b
fit_after w f (tnc_collect c size) ok = fit_tnc_collect w f c size

pub fits : {setting : ℕ} {l : Limits} {w : World} → Run setting l w → Fits w
fits start = record { host_out = λ c. tt; tnc_out = λ c. tt; poll_list = tt; sent = tt; held = record { place = inr refl; shape = tt }; up = tt; dn = tt }
fits (after {w = w} r c ok) = fit_after w (fits r) c ok

pub request_at_fits : {setting : ℕ} {l : Limits} {w : World} → Run setting l w → (i : ℕ) → i < length w.up
    → request_read (request_body (request_at w i)) ≡ request_at w i
request_at_fits {w = w} r i h = request_read_fit w (fits r) i h

pub answer_at_fits : {setting : ℕ} {l : Limits} {w : World} → Run setting l w → (i : ℕ) → i < length w.dn
    → answer_read (answer_body (answer_at w i)) ≡ answer_at w i
answer_at_fits {w = w} r i h = answer_read_fit w (fits r) i h
