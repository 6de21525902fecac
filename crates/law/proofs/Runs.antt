-- Every run keeps the invariant, byte by byte: each call is one of the rules, or changes no more than a reader.
use Rattle.std.proofs.Common.{◌≡◌, ℕ, ◌≤◌, Bool, true, false, cond, ltb, List, Some, None, Option, sym, refl, ap, ◌∙◌, subst}
use Rattle.poll.specs.Channel.{last_channel}
use Rattle.wire.specs.Wire.{longest_wire}
use Rattle.ends.specs.Frames.{Request, Answer, request_read, answer_read}
use Rattle.law.specs.Runs.{World, Limits, Call, host_open, host_step, host_timer, host_hear, host_submit, host_submit_again, host_collect, tnc_hear, tnc_submit, tnc_collect, host_passes, tnc_passes, host_hears, tnc_hears, in_buffer, opens, steps, times, Allowed, act, Run, start, after}
use Rattle.law.specs.Law.{Delivery}
use Rattle.law.proofs.Steps.{host_heard, tnc_heard}
use Rattle.law.proofs.Keeps.{Inv, begins, with_readers_keeps, keeps_open, keeps_step, keeps_timer, keeps_host_hear, keeps_tnc_hear, keeps_host_submit, keeps_tnc_submit, keeps_host_collect, keeps_tnc_collect}
use Rattle.law.proofs.Delivers.{delivery}
use Rattle.law.proofs.Fitting.{request_at_fits, answer_at_fits}

-- a call with a wire buffer
buffered : (size : ℕ) (w v : World) → Inv w → Inv v → Inv (in_buffer size w v)
buffered size w v i j = go (ltb size longest_wire)
  where
    go : (b : Bool) → Inv (cond b w v)
    go true = i
    go false = j

host_hear_keeps : {setting : ℕ} {l : Limits} {w : World} → Run setting l w → (byte i : ℕ) → Allowed (host_hear byte i) w → Inv w → (o : Option (List ℕ)) → host_passes byte w ≡ o → Inv (host_hears o i w)
host_hear_keeps r byte i ok inv None e = inv
host_hear_keeps {w = w} r byte i ok inv (Some body) e =
    let p = ok body e in
    subst (λ (a : Answer). Inv (host_heard a i w)) (sym (ap answer_read p.2 ∙ answer_at_fits r i p.1)) (keeps_host_hear w i (p.0, p.1) inv)

tnc_hear_keeps : {setting : ℕ} {l : Limits} {w : World} → Run setting l w → (size byte i : ℕ) → Allowed (tnc_hear size byte i) w → Inv w → (o : Option (List ℕ)) → tnc_passes size byte w ≡ o → Inv (tnc_hears o i w)
tnc_hear_keeps r size byte i ok inv None e = inv
tnc_hear_keeps {w = w} r size byte i ok inv (Some body) e =
    let p = ok body e in
    subst (λ (q : Request). Inv (tnc_heard q i w)) (sym (ap request_read p.2 ∙ request_at_fits r i p.1)) (keeps_tnc_hear w i (p.0, p.1) inv)

keeps : {setting : ℕ} {l : Limits} {w : World} → Run setting l w → (c : Call) → Allowed c w → Inv w → Inv (act c w)
keeps {w = w} r (host_open size) ok i = buffered size w (opens w) i (keeps_open w i)
keeps {w = w} r (host_step size) ok i = buffered size w (steps w) i (keeps_step w i)
keeps {w = w} r (host_timer size) ok i = buffered size w (times w) i (keeps_timer w i)
keeps {w = w} r (host_hear byte x) ok i = with_readers_keeps _ _ _ (host_hear_keeps r byte x ok i (host_passes byte w) refl)
keeps {w = w} r (host_submit c b) ok i = keeps_host_submit w c b i
keeps {w = w} r (host_submit_again c n b) ok i = keeps_host_submit w c b i
keeps {w = w} r (host_collect c size) ok i = keeps_host_collect w c size i
keeps {w = w} r (tnc_hear size byte x) ok i = buffered size w _ i (with_readers_keeps _ _ _ (tnc_hear_keeps r size byte x ok i (tnc_passes size byte w) refl))
keeps {w = w} r (tnc_submit c b) ok i = keeps_tnc_submit w c b i
keeps {w = w} r (tnc_collect c size) ok i = keeps_tnc_collect w c size i

always : {setting : ℕ} {l : Limits} {w : World} → Run setting l w → Inv w
always {setting} {l} start = begins setting l
always (after {w = w} r c ok) = keeps r c ok (always r)

pub delivers : (setting : ℕ) (l : Limits) (w : World) → Run setting l w → (c : ℕ) → c ≤ last_channel → Delivery w c
delivers setting l w r c low = delivery w c low (always r)
