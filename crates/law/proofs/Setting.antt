-- The host of a run keeps the setting that the run began with.
use Rattle.std.proofs.Common.{◌≡◌, ℕ, Bool, true, false, cond, ltb, List, Some, None, Option, refl, ◌∙◌}
use Rattle.wire.specs.Wire.{longest_wire}
use Rattle.store.specs.Meaning.{Meaning}
use Rattle.ends.specs.Frames.{Answer, answer_read}
use Rattle.ends.specs.Host.{Host, Sending, not_allowed, sends, sends_again, gives_up, open_rule, step_rule, timer_rule, by_open, by_step, by_timer, HostRule, stale, spare_used, opened, confirmed, block_refused, nothing_there, received, listed, no_room, falls, host_rule, by_hear}
use Rattle.law.specs.Runs.{World, Limits, Call, host_open, host_step, host_timer, host_hear, host_submit, host_submit_again, host_collect, tnc_hear, tnc_submit, tnc_collect, host_passes, tnc_passes, host_hears, tnc_hears, opens, steps, times, act, Run, start, after}

opened_set : (s : Sending) (h : Host) (out inn : Meaning) → (by_open s h out inn).host.setting ≡ h.setting
opened_set not_allowed h out inn = refl
opened_set sends h out inn = refl
opened_set sends_again h out inn = refl
opened_set gives_up h out inn = refl

stepped_set : (s : Sending) (h : Host) (out inn : Meaning) → (by_step s h out inn).host.setting ≡ h.setting
stepped_set not_allowed h out inn = refl
stepped_set sends h out inn = refl
stepped_set sends_again h out inn = refl
stepped_set gives_up h out inn = refl

timed_set : (s : Sending) (h : Host) (out inn : Meaning) → (by_timer s h out inn).host.setting ≡ h.setting
timed_set not_allowed h out inn = refl
timed_set sends h out inn = refl
timed_set sends_again h out inn = refl
timed_set gives_up h out inn = refl

heard_set : (r : HostRule) (a : Answer) (h : Host) (out inn : Meaning) → (by_hear r a h out inn).host.setting ≡ h.setting
heard_set stale a h out inn = refl
heard_set spare_used a h out inn = refl
heard_set opened a h out inn = refl
heard_set confirmed a h out inn = refl
heard_set block_refused a h out inn = refl
heard_set nothing_there a h out inn = refl
heard_set received a h out inn = refl
heard_set listed a h out inn = refl
heard_set no_room a h out inn = refl
heard_set (falls n) a h out inn = refl

-- where a buffer is too short, nothing is another
buffered : (b : Bool) (w v : World) → v.host.setting ≡ w.host.setting → (cond b w v).host.setting ≡ w.host.setting
buffered true w v is = refl
buffered false w v is = is

host_byte : (o : Option (List ℕ)) (i : ℕ) (w : World) → (host_hears o i w).host.setting ≡ w.host.setting
host_byte None i w = refl
host_byte (Some body) i w = heard_set (host_rule w.host w.host_in (answer_read body)) (answer_read body) w.host w.host_out w.host_in

tnc_byte : (o : Option (List ℕ)) (i : ℕ) (w : World) → (tnc_hears o i w).host.setting ≡ w.host.setting
tnc_byte None i w = refl
tnc_byte (Some body) i w = refl

kept : (c : Call) (w : World) → (act c w).host.setting ≡ w.host.setting
kept (host_open size) w = buffered (ltb size longest_wire) w (opens w) (opened_set (open_rule w.host.state) w.host w.host_out w.host_in)
kept (host_step size) w = buffered (ltb size longest_wire) w (steps w) (stepped_set (step_rule w.host.state) w.host w.host_out w.host_in)
kept (host_timer size) w = buffered (ltb size longest_wire) w (times w) (timed_set (timer_rule w.host.setting w.host.state) w.host w.host_out w.host_in)
kept (host_hear byte i) w = host_byte (host_passes byte w) i w
kept (host_submit c b) w = refl
kept (host_submit_again c n b) w = refl
kept (host_collect c size) w = refl
kept (tnc_hear size byte i) w = buffered (ltb size longest_wire) w _ (tnc_byte (tnc_passes size byte w) i w)
kept (tnc_submit c b) w = refl
kept (tnc_collect c size) w = refl

pub setting_is : {setting : ℕ} {l : Limits} {w : World} → Run setting l w → w.host.setting ≡ setting
setting_is start = refl
setting_is (after {w = w} r c ok) = kept c w ∙ setting_is r
