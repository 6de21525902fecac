-- Frames that can be sent: each has a body, and that body is read as the frame that it was made of.
use Rattle.std.proofs.Common.{◌≡◌, ◌-◌, ℕ, zero, suc, ◌<◌, ◌≤◌, Bool, true, false, cond, not, ◌&&◌, eqb, leb, List, [], ◌∷◌, ◌++◌, length, get_or, take, drop, set, replicate, Some, None, Option, sym, refl, ap, ◌∙◌, arith, length-set}
use Rattle.std.proofs.Math.Logic.{∥∥₁_elim}
use Rattle.std.proofs.lemmas.Option.{none-some}
use Rattle.std.proofs.lemmas.List.{take_at, get_or-set_other, get_or-replicate, length_push, nil_from_length}
use Rattle.std.proofs.lemmas.Bool.{false≢true, not-true, not_from_false, leb-true, le-leb, eqb-false, ne_eqb, and_parts, and_from, cond-false}
use Rattle.poll.specs.Channel.{last_channel, channels}
use Rattle.poll.specs.List.{Fresh, GoodList}
use Rattle.poll.proofs.ListLaws.{good}
use Rattle.poll.proofs.ListSeen.{trues, trues_le, trues_set}
use Rattle.frame.specs.declared.form.Direction.{Direction}
use Rattle.frame.specs.declared.form.Direction.TheVariants.{FromHost, FromTnc}
use Rattle.frame.specs.declared.form.Form.{Form}
use Rattle.frame.specs.declared.form.Form.TheVariants.{Bare, Text, Counted}
use Rattle.frame.specs.Frame.{Frame, Body, ChannelByte, Carries, carried, body_of, form_of, IsReadAs}
use Rattle.frame.proofs.Bodies.{code_read, form_read, rest_read, channel_read, reset_read, toggle_read}
use Rattle.store.specs.Meaning.{Block, Meaning}
use Rattle.ends.specs.Frames.{Load, poll, information, command, Request, Reply, success, message, failure, block, other, Answer, load_code, load_payload, request_frame, load_in, request_of, reply_code, reply_payload, answer_frame, reply_in, answer_of, request_body, answer_body, uncarried, payload_by, frame_read, request_read, answer_read, member, is_good}
use Rattle.ends.specs.Line.{FrameIn}
use Rattle.ends.specs.Tnc.{is_some, waiting_to, list_for}

-- WHAT CAN BE SENT

-- a block that may wait on a channel, and be sent there
abbrev pub FitBlock : ℕ → Block → Type 0
FitBlock c b = (c ≤ last_channel) × Carries Counted b.bytes

abbrev pub FitLoad : ℕ → Load → Type 0
FitLoad c poll = Unit {0}
FitLoad c (information b) = FitBlock c b
FitLoad c (command p) = ⊥

abbrev pub FitReply : ℕ → Reply → Type 0
FitReply c success = Unit {0}
FitReply c (message t) = is_good t ≡ true
FitReply c (failure t) = Carries Text t
FitReply c (block b) = FitBlock c b
FitReply c (other code p) = ⊥

pub record FitRequest (q : Request) : Type 0 where
  pub place : ChannelByte q.channel
  pub shape : FitLoad q.channel q.load

pub record FitAnswer (a : Answer) : Type 0 where
  pub place : ChannelByte a.channel
  pub shape : FitReply a.channel a.reply

-- GOOD LISTS

-- a value that is no member: it is not the first, and no member of the rest
not_member : (v x : ℕ) (xs : List ℕ) → member v (x ∷ xs) ≡ false → (v ≡ x → ⊥) × (member v xs ≡ false)
not_member v x xs e = go (eqb v x) refl e
  where
    go : (b : Bool) → eqb v x ≡ b → cond b true (member v xs) ≡ false → (v ≡ x → ⊥) × (member v xs ≡ false)
    go true t f = absurd (false≢true (sym f))
    go false t f = (eqb-false v x t, f)

member_fresh : (v : ℕ) (xs : List ℕ) → member v xs ≡ false → Fresh xs v
member_fresh v [] e k h q = omega arith
member_fresh v (x ∷ xs) e zero h q = (not_member v x xs e).0 (sym q)
member_fresh v (x ∷ xs) e (suc k) h q = member_fresh v xs (not_member v x xs e).1 k (omega arith) q

fresh_member : (v : ℕ) (xs : List ℕ) → Fresh xs v → member v xs ≡ false
fresh_member v [] f = refl
fresh_member v (x ∷ xs) f =
    cond-false (eqb v x) true (member v xs) (ne_eqb v x (λ e. f 0 (omega arith) (sym e)))
    ∙ fresh_member v xs (λ k h. f (suc k) (omega arith))

-- what the test says of a list's first value, and of the rest
pub record Goods (v : ℕ) (xs : List ℕ) : Type 0 where
  pub low : 1 ≤ v
  pub high : v ≤ channels
  pub once : member v xs ≡ false
  pub rest : is_good xs ≡ true

pub goods : (v : ℕ) (xs : List ℕ) → is_good (v ∷ xs) ≡ true → Goods v xs
goods v xs e =
    let p = and_parts (leb 1 v && leb v channels) (not (member v xs) && is_good xs) e in
    let r = and_parts (leb 1 v) (leb v channels) p.0 in
    let l = and_parts (not (member v xs)) (is_good xs) p.1 in
    record { low = leb-true 1 v r.0; high = leb-true v channels r.1; once = not-true (member v xs) l.0; rest = l.1 }

pub good_is : (xs : List ℕ) → is_good xs ≡ true → GoodList xs
good_is [] e k h = absurd (omega arith)
good_is (v ∷ xs) e zero h = let g = goods v xs e in (g.low, g.high, λ j l q. omega arith)
good_is (v ∷ xs) e (suc k) h =
    let g = goods v xs e in
    let r = good_is xs g.rest k (omega arith) in
    (r.0, r.1, go (member_fresh v xs g.once) r.2)
  where
    go : Fresh xs v → Fresh (take k xs) (get_or xs k 0) → Fresh (v ∷ take k xs) (get_or xs k 0)
    go f r zero l q = f k (omega arith) (sym q)
    go f r (suc j) l q = r j (omega arith) q

pub is_good_holds : (xs : List ℕ) → GoodList xs → is_good xs ≡ true
is_good_holds [] g = refl
is_good_holds (v ∷ xs) g =
    let h = g 0 (omega arith) in
    let once : Fresh xs v = λ k l e. (g (suc k) (omega arith)).2 0 (omega arith) (sym e) in
    let rest : GoodList xs = λ k l. let t = g (suc k) (omega arith) in (t.0, t.1, λ j m. t.2 (suc j) (omega arith)) in
    and_from (leb 1 v && leb v channels) (not (member v xs) && is_good xs)
    (and_from (leb 1 v) (leb v channels) (le-leb 1 v h.0) (le-leb v channels h.1))
    (and_from (not (member v xs)) (is_good xs) (not_from_false (member v xs) (fresh_member v xs once)) (is_good_holds xs rest))

-- the list of a store is good
length_waiting : (n : ℕ) (w : ℕ → List Block) → length (waiting_to n w) ≡ n
unfolding waiting_to
length_waiting zero w = refl
length_waiting (suc n) w = length_push (waiting_to n w) (is_some (w n)) ∙ (let h = length_waiting n w in omega arith)

pub list_good : (m : Meaning) → is_good (list_for m) ≡ true
list_good m = is_good_holds (list_for m) (good (waiting_to channels m.waiting) (length_waiting channels m.waiting))

-- marks on the channels that a good list names, one for each of its values
record Marked (xs : List ℕ) : Type 0 where
  marks : List Bool
  size : length marks ≡ channels
  count : trues marks ≡ length xs
  free : (c : ℕ) → c < channels → member (suc c) xs ≡ false → get_or marks c false ≡ false

marked : (xs : List ℕ) → is_good xs ≡ true → Marked xs
marked [] e = record { marks = replicate channels false; size = refl; count = refl; free = λ c l h. get_or-replicate channels c false false l }
marked (zero ∷ xs) e = absurd (omega (arith, (goods zero xs e).low))
marked (suc p ∷ xs) e =
    let g = goods (suc p) xs e in
    let m = marked xs g.rest in
    let low : p < length m.marks = omega arith in
    record {
      marks = set m.marks p true;
      size = length-set m.marks p true ∙ m.size;
      count = trues_set m.marks p low (m.free p (omega arith) g.once) ∙ omega arith;
      free = λ c l h. let n = not_member (suc c) (suc p) xs h in get_or-set_other m.marks p c true false (λ q. n.0 (ap suc q)) ∙ m.free c l n.1;
    }

-- a good list is a text
pub good_text : (xs : List ℕ) → is_good xs ≡ true → Carries Text xs
good_text xs e =
    let m = marked xs e in
    (omega (arith, trues_le m.marks), λ k h q. omega (arith, (good_is xs e k h).0))

-- BODIES

-- the same frame with another load, another reply
abbrev loaded : Request → Load → Request
loaded q l = record { channel = q.channel; reset = q.reset; toggle = q.toggle; load = l }

abbrev replied : Answer → Reply → Answer
replied a r = record { channel = a.channel; reset = a.reset; toggle = a.toggle; reply = r }

body : {d : Direction} (m : Form) (f : Frame) → form_of d f.code ≡ Some m → ChannelByte f.channel → Carries m f.payload → Body d (body_of m f) f
body m f known address carries = record { form = m; sendable = record { known = known; address = address; carries = carries }; bytes_are = refl }

pub request_body_is : (q : Request) → FitRequest q → Body FromHost (request_body q) (request_frame q)
request_body_is q f = go q.load f.shape
  where
    go : (l : Load) → FitLoad q.channel l → Body FromHost (request_body (loaded q l)) (request_frame (loaded q l))
    go poll h = body Counted (request_frame (loaded q poll)) refl f.place (omega arith, omega arith)
    go (information b) h = body Counted (request_frame (loaded q (information b))) refl f.place h.1
    go (command p) h = absurd h

pub answer_body_is : (a : Answer) → FitAnswer a → Body FromTnc (answer_body a) (answer_frame a)
answer_body_is a f = go a.reply f.shape
  where
    go : (r : Reply) → FitReply a.channel r → Body FromTnc (answer_body (replied a r)) (answer_frame (replied a r))
    go success h = body Bare (answer_frame (replied a success)) refl f.place refl
    go (message t) h = body Text (answer_frame (replied a (message t))) refl f.place (good_text t h)
    go (failure t) h = body Text (answer_frame (replied a (failure t))) refl f.place h
    go (block b) h = body Counted (answer_frame (replied a (block b))) refl f.place h.1
    go (other code p) h = absurd h

-- READ BACK

-- what a form carries comes out again
uncarried_carried : (m : Form) (p : List ℕ) → Carries m p → uncarried m (carried m p) ≡ p
uncarried_carried Bare p h = sym (nil_from_length p h)
uncarried_carried Text p h = take_at p (0 ∷ []) (length (p ++ 0 ∷ []) - 1) (omega (arith, length_push p 0))
uncarried_carried Counted p h = refl

pub frame_read_is : (d : Direction) (body : List ℕ) (f : Frame) → Body d body f → frame_read d body ≡ f
frame_read_is d body f b =
    let channel = channel_read d body f b in
    let code = code_read d body f b in
    let reset = reset_read d body f b in
    let toggle = toggle_read d body f b in
    let payload =
    ap (λ (o : Option Form). payload_by o (drop 2 body)) (form_read d body f b)
    ∙ ap (uncarried b.form) (rest_read d body f b)
    ∙ uncarried_carried b.form f.payload b.sendable.carries in
    λ i. record { channel = channel i; code = code i; reset = reset i; toggle = toggle i; payload = payload i }

-- a frame's body is read as its frame
pub read_whole : (d : Direction) (body : List ℕ) (o : Option Frame) → ∥ FrameIn d body ∥₁ → IsReadAs d body o → o ≡ Some (frame_read d body)
read_whole d body None is reads = absurd (∥∥₁_elim is (hlevel) (λ x. none-some x.0 ((reads x.0).0 x.1)))
read_whole d body (Some f) is reads = ap (λ (x : Frame). Some x) (sym (frame_read_is d body f ((reads f).1 refl)))

pub request_trip : (q : Request) → FitRequest q → request_read (request_body q) ≡ q
request_trip q f =
    ap request_of (frame_read_is FromHost (request_body q) (request_frame q) (request_body_is q f))
    ∙ ap (loaded q) (back q.load f.shape)
  where
    back : (l : Load) → FitLoad q.channel l → load_in (load_code l) (load_payload l) ≡ l
    back poll h = refl
    back (information b) h = refl
    back (command p) h = absurd h

pub answer_trip : (a : Answer) → FitAnswer a → answer_read (answer_body a) ≡ a
answer_trip a f =
    ap answer_of (frame_read_is FromTnc (answer_body a) (answer_frame a) (answer_body_is a f))
    ∙ ap (replied a) (back a.reply f.shape)
  where
    back : (r : Reply) → FitReply a.channel r → reply_in (reply_code r) (reply_payload r) ≡ r
    back success h = refl
    back (message t) h = refl
    back (failure t) h = refl
    back (block b) h = refl
    back (other code p) h = absurd h
