-- Blocks from the host to the TNC, on channel c: what each call does to what is gone and what came.
use Rattle.std.proofs.Common.{◌≡◌, ℕ, zero, suc, ◌<◌, ◌≤◌, Bool, true, false, cond, eqb, List, [], ◌∷◌, ◌++◌, sym, refl, ap, ◌∙◌, subst, append_assoc, append-nil, arith, eqb-true}
use native.Mathlib.Decide.{ℕ_discrete}
use Rattle.poll.specs.Channel.{channels}
use Rattle.frame.specs.Frame.{general}
use Rattle.store.specs.Meaning.{Block}
use Rattle.ends.specs.Limits.{last_number}
use Rattle.ends.specs.Frames.{Request, Reply, success, message, failure, block, other, Answer, Cargo, empty, holds, cargo_of}
use Rattle.ends.specs.Host.{State, fresh, opening, idle, on_its_way, down, Pick, poll_after_refusal, channel_poll, send_block_of, general_poll, or_else, lowest_below, pick, request_for, aboard, aboard_on}
use Rattle.law.specs.Runs.{Named, confirmed, doubtful}
use Rattle.law.proofs.Line.{line_le}
use Rattle.law.proofs.Sync.{Sync, Shape, never, book', old, new}
use Rattle.law.proofs.Books.{Gone, Kept, none', block_in, sure_in, doubt_in, carried, carried_empty, Books, drop_c, count_c, name_c, books_doubt, books_confirmed, books_submit, Got, doubted, settled_by, unused}

abbrev pub carries : ℕ → Request → Cargo
carries c f = carried c f.channel (cargo_of f.load)

abbrev pub good_reply : Reply → Bool
good_reply success = true
good_reply (message l) = true
good_reply (failure s) = false
good_reply (block b) = false
good_reply (other k s) = false

-- what of the frame's block came
abbrev pub if_good : Bool → Cargo → Cargo
if_good true y = y
if_good false y = empty

-- what is settled where no frame of the host is on its way
pub record Rest (c n m : ℕ) (book : ℕ → Request) (gone : List Gone) (d : List Block) : Type 0 where
  pub flies : suc m ≤ n → (book (suc m)).reset ≡ false → (base : List Gone) × (gone ≡ base ++ doubt_in (carries c (book (suc m)))) × Kept base d
  pub rests : n ≤ m → Kept gone d
  pub skips : suc m ≤ n → (book (suc m)).reset ≡ true → Kept gone d

pub record Sent (c : ℕ) (f : Request) (n m : ℕ) (good : Bool) (gone : List Gone) (d out : List Block) : Type 0 where
  pub got : m ≡ n → Got (if_good good (carries c f)) gone d
  pub lacks : suc m ≡ n → Kept gone d
  pub waits : (rest : List Block) × (out ≡ block_in (carries c f) ++ rest)

abbrev pub Account : ℕ → State → ℕ → ℕ → (ℕ → Request) → Bool → List Gone → List Block → List Block → Type 0
Account c fresh n m book good gone d out = Rest c n m book gone d
Account c (opening r) n m book good gone d out = Rest c n m book gone d
Account c idle n m book good gone d out = Rest c n m book gone d
Account c (on_its_way f r) n m book good gone d out = Sent c f n m good gone d out
Account c down n m book good gone d out = Rest c n m book gone d

pub record ToTnc (c : ℕ) (st : State) (n m : ℕ) (book : ℕ → Request) (good : Bool) (s : List Block) (x : List Named) (out : List Block) (cnt sub : ℕ) (d : List Block) : Type 0 where
  pub gone : List Gone
  pub books : Books s x out cnt sub gone
  pub acct : Account c st n m book good gone d out

pub up_begin : (c : ℕ) (book : ℕ → Request) → ToTnc c fresh 0 0 book true [] [] [] 0 0 []
up_begin c book = record { gone = []; books = record { named = refl; kept = refl; counted = refl; subs = refl; most = omega arith }; acct = record { flies = λ a. absurd (omega arith); rests = λ a. none'; skips = λ a. absurd (omega arith) } }

if_good_doubted : (good : Bool) (y : Cargo) (g : List Gone) (d : List Block) → Got (if_good good y) g d → Kept (g ++ doubt_in y) d
if_good_doubted true y g d t = doubted y g t.0 d t.1 t.2
if_good_doubted false y g d t = unused y g d (rw (t.2, append-nil) t.1)

module _ (c n m : ℕ) (book : ℕ → Request) (d : List Block) where
  rest_new : (f : Request) (gone : List Gone) → m ≤ n → f.reset ≡ true → Rest c n m book gone d → Rest c (suc n) m (book' book n f) gone d
  rest_new f gone mn fl r =
      record {
        flies = λ a e. elim (ℕ_discrete m n) [ yes q ↦ absurd (never (sym e ∙ ap (λ (y : ℕ). (book' book n f (suc y)).reset) q ∙ ap (λ (y : Request). y.reset) (new book n f) ∙ fl)) | no q ↦ rw (old book n f (suc m) (omega arith)) (r.flies (omega arith) (rw (old book n f (suc m) (omega arith)) at e)) ];
        rests = λ a. absurd (omega arith);
        skips = λ a e. elim (ℕ_discrete m n) [ yes q ↦ r.rests (omega arith) | no q ↦ r.skips (omega arith) (rw (old book n f (suc m) (omega arith)) at e) ];
      }

  rested : (gone : List Gone) → m ≡ n → Kept gone d → Rest c n m book gone d
  rested gone mn k = record { flies = λ a. absurd (omega arith); rests = λ a. k; skips = λ a. absurd (omega arith) }

  pub settled_any : (gone : List Gone) → Rest c n m book gone d → suc m ≤ n → Kept gone d
  settled_any gone r lt = go (book (suc m)).reset refl
    where
      go : (b : Bool) → (book (suc m)).reset ≡ b → Kept gone d
      go true e = r.skips lt e
      go false e = let t = r.flies lt e in rw t.1 (unused (carries c (book (suc m))) t.0 d t.2)

  rest_resets : (k : ℕ) (gone : List Gone) → m ≤ n → m ≤ k → ((i : ℕ) → 1 ≤ i → i ≤ n → (book i).reset ≡ false → i ≤ suc m) → Rest c n m book gone d → Rest c n k book gone d
  rest_resets k gone mn mk one r =
      record {
        flies = λ lt v. let e : k ≡ m = omega (arith, one (suc k) (omega arith) lt v) in rw e (r.flies (omega arith) (rw e at v));
        rests = λ le. elim (ℕ_discrete k m) [ yes e ↦ r.rests (omega arith) | no h ↦ elim (ℕ_discrete m n) [ yes e ↦ r.rests (omega arith) | no g ↦ go (omega arith) ] ];
        skips = λ lt v. elim (ℕ_discrete k m) [ yes e ↦ r.skips (omega arith) (rw e at v) | no h ↦ go (omega arith) ];
      }
    where
      go : suc m ≤ n → Kept gone d
      go = settled_any gone r

  -- the TNC accepts transmission m + 1
  rest_accepts : (good' : Bool) (gone : List Gone) → suc m ≤ n → (book (suc m)).reset ≡ false → ((i : ℕ) → 1 ≤ i → i ≤ n → (book i).reset ≡ false → i ≤ suc m) → Rest c n m book gone d → Rest c n (suc m) book gone (d ++ block_in (if_good good' (carries c (book (suc m)))))
  rest_accepts g' gone lt fl one r =
      let t = r.flies lt fl in
      let done : Kept gone (d ++ block_in (if_good g' (carries c (book (suc m))))) = rw t.1 (if_good_doubted g' (carries c (book (suc m))) t.0 _ (d, t.2, refl)) in
      record { flies = λ l2 v. absurd (omega (arith, one (suc (suc m)) (omega arith) l2 v)); rests = λ le. done; skips = λ l2 v. done }

  module _ (good : Bool) (out : List Block) where
    acct_more : (st : State) (gone : List Gone) (b : Block) → Account c st n m book good gone d out → Account c st n m book good gone d (out ++ b ∷ [])
    acct_more fresh gone b a = a
    acct_more (opening r) gone b a = a
    acct_more idle gone b a = a
    acct_more (on_its_way f r) gone b a = record { got = a.got; lacks = a.lacks; waits = (a.waits.0 ++ b ∷ [], rw (a.waits.1, append_assoc)) }
    acct_more down gone b a = a

    acct_resets : (st : State) (last pend : Bool) (j k : ℕ) (good' : Bool) (gone : List Gone) → m ≤ n → j ≤ m → m ≤ k → k ≤ n → (book k).reset ≡ true → ((i : ℕ) → 1 ≤ i → i ≤ n → (book i).reset ≡ false → i ≤ suc m) → Shape st last pend n m j book → Account c st n m book good gone d out → Account c st n k book good' gone d out
    acct_resets fresh last pend j k g' gone mn jm mk kn fl one sh a = rest_resets k gone mn mk one a
    acct_resets (opening r) last pend j k g' gone mn jm mk kn fl one sh a = rest_resets k gone mn mk one a
    acct_resets idle last pend j k g' gone mn jm mk kn fl one sh a = rest_resets k gone mn mk one a
    acct_resets (on_its_way f r) last pend j k g' gone mn jm mk kn fl one sh a =
        let ne : k ≡ n → ⊥ = λ e. never (sym sh.3 ∙ ap (λ (y : Request). y.reset) (sym sh.1) ∙ ap (λ (y : ℕ). (book y).reset) (sym e) ∙ fl) in
        record { got = λ e. absurd (ne e); lacks = λ e. a.lacks (omega (arith, sh.0)); waits = a.waits }
    acct_resets down last pend j k g' gone mn jm mk kn fl one sh a = rest_resets k gone mn mk one a

    acct_accepts : (st : State) (last pend : Bool) (j : ℕ) (good' : Bool) (gone : List Gone) → j ≤ m → suc m ≤ n → (book (suc m)).reset ≡ false → ((i : ℕ) → 1 ≤ i → i ≤ n → (book i).reset ≡ false → i ≤ suc m) → Shape st last pend n m j book → Account c st n m book good gone d out → Account c st n (suc m) book good' gone (d ++ block_in (if_good good' (carries c (book (suc m))))) out
    acct_accepts fresh last pend j g' gone jm lt fl one sh a = rest_accepts g' gone lt fl one a
    acct_accepts (opening r) last pend j g' gone jm lt fl one sh a = rest_accepts g' gone lt fl one a
    acct_accepts idle last pend j g' gone jm lt fl one sh a = rest_accepts g' gone lt fl one a
    acct_accepts (on_its_way f r) last pend j g' gone jm lt fl one sh a =
        let sm : suc m ≡ n = omega (arith, sh.0) in
        record { got = λ e. (d, a.lacks sm, rw (ap book sm, sh.1)); lacks = λ e. absurd (omega arith); waits = a.waits }
    acct_accepts down last pend j g' gone jm lt fl one sh a = rest_accepts g' gone lt fl one a

module _ (c : ℕ) {n m : ℕ} {book : ℕ → Request} {good : Bool} {s : List Block} {x : List Named} {out : List Block} {cnt sub : ℕ} {d : List Block} where
  pub up_submit : (st : State) (b : Block) → sub < last_number → ToTnc c st n m book good s x out cnt sub d → ToTnc c st n m book good (s ++ b ∷ []) x (out ++ b ∷ []) cnt (suc sub) d
  up_submit st b lt u = record { gone = u.gone; books = books_submit b lt u.books; acct = acct_more c n m book d good out st u.gone b u.acct }

  no_cargo : (c' : ℕ) → ToTnc c down n m book good s x out cnt sub d → ToTnc c down n m book good s (name_c doubtful (carried c c' empty) cnt x) (drop_c (carried c c' empty) out) (count_c (carried c c' empty) cnt) sub d
  no_cargo c' u = subst (λ (y : Cargo). ToTnc c down n m book good s (name_c doubtful y cnt x) (drop_c y out) (count_c y cnt) sub d) (sym (carried_empty c c' empty refl)) u

  pub up_open_new : (f : Request) (r : ℕ) → m ≤ n → f.reset ≡ true → ToTnc c down n m book good s x out cnt sub d → ToTnc c (opening r) (suc n) m (book' book n f) good s x out cnt sub d
  up_open_new f r mn fl u = record { gone = u.gone; books = u.books; acct = rest_new c n m book d f u.gone mn fl u.acct }

  -- step
  pub up_step : (f : Request) → m ≡ n → (rest : List Block) × (out ≡ block_in (carries c f) ++ rest) → ToTnc c idle n m book good s x out cnt sub d → ToTnc c (on_its_way f 0) (suc n) m (book' book n f) good s x out cnt sub d
  up_step f mn w u = record { gone = u.gone; books = u.books; acct = record { got = λ e. absurd (omega arith); lacks = λ e. u.acct.rests (omega arith); waits = w } }

  -- an answer taken: the block is confirmed, or nothing of it came, or there was none
  pub up_confirmed : (f : Request) (r : ℕ) → m ≡ n → good ≡ true → ToTnc c (on_its_way f r) n m book good s x out cnt sub d → ToTnc c idle n m book good s (name_c confirmed (carries c f) cnt x) (drop_c (carries c f) out) (count_c (carries c f) cnt) sub d
  up_confirmed f r mn g u =
      let a = u.acct in
      let t : Got (carries c f) u.gone d = subst (λ (z : Bool). Got (if_good z (carries c f)) u.gone d) g (a.got mn) in
      record { gone = u.gone ++ sure_in (carries c f); books = books_confirmed (carries c f) a.waits.0 a.waits.1 u.books; acct = rested c n m book d _ mn (settled_by (carries c f) u.gone t.0 d t.1 t.2) }

  pub up_stays : (f : Request) (r : ℕ) → m ≡ n → if_good good (carries c f) ≡ empty → ToTnc c (on_its_way f r) n m book good s x out cnt sub d → ToTnc c idle n m book good s x out cnt sub d
  up_stays f r mn g u =
      let t : Got empty u.gone d = subst (λ (z : Cargo). Got z u.gone d) g (u.acct.got mn) in
      let h : d ≡ t.0 = t.2 ∙ append-nil t.0 in
      record { gone = u.gone; books = u.books; acct = rested c n m book d _ mn (rw h t.1) }

  module _ {j : ℕ} {pend generation last ready tlast : Bool} {held : Answer} {up : List Request} {up_at : ℕ} {dn : List Answer} {dn_at : ℕ} where
    -- the link goes down
    pub up_fall : (st : State) → Sync n m j book pend st generation last ready tlast held up up_at dn dn_at → ToTnc c st n m book good s x out cnt sub d → ToTnc c down n m book good s (name_c doubtful (carried c (aboard_on st) (aboard st)) cnt x) (drop_c (carried c (aboard_on st) (aboard st)) out) (count_c (carried c (aboard_on st) (aboard st)) cnt) sub d
    up_fall fresh y u = no_cargo _ (record { gone = u.gone; books = u.books; acct = u.acct })
    up_fall (opening r) y u = no_cargo _ (record { gone = u.gone; books = u.books; acct = u.acct })
    up_fall idle y u = no_cargo _ (record { gone = u.gone; books = u.books; acct = u.acct })
    up_fall down y u = no_cargo _ (record { gone = u.gone; books = u.books; acct = u.acct })
    up_fall (on_its_way f r) y u =
        let a = u.acct in
        let sh = y.shape in
        let jm = line_le y.dns in
        let mn = y.mn in
        record {
          gone = u.gone ++ doubt_in (carries c f);
          books = books_doubt (carries c f) a.waits.0 a.waits.1 u.books;
          acct = record {
            flies = λ lt v. let sm : suc m ≡ n = omega (arith, sh.0) in let e : book (suc m) ≡ f = ap book sm ∙ sh.1 in (u.gone, rw e, a.lacks sm);
            rests = λ le. if_good_doubted good (carries c f) u.gone d (a.got (omega arith));
            skips = λ lt v. let sm : suc m ≡ n = omega (arith, sh.0) in let e : book (suc m) ≡ f = ap book sm ∙ sh.1 in absurd (never (sym sh.3 ∙ ap (λ (z : Request). z.reset) (sym e) ∙ v));
          };
        }

    -- the TNC hears a reset, and accepts a frame
    pub up_resets : (st : State) (k : ℕ) (good' : Bool) → Sync n m j book pend st generation last ready tlast held up up_at dn dn_at → m ≤ k → k ≤ n → (book k).reset ≡ true → ToTnc c st n m book good s x out cnt sub d → ToTnc c st n k book good' s x out cnt sub d
    up_resets st k g' y mk kn fl u = record { gone = u.gone; books = u.books; acct = acct_resets c n m book d good out st last pend j k g' u.gone y.mn (line_le y.dns) mk kn fl y.one y.shape u.acct }

    pub up_accepts : (st : State) (good' : Bool) → Sync n m j book pend st generation last ready tlast held up up_at dn dn_at → suc m ≤ n → (book (suc m)).reset ≡ false → ToTnc c st n m book good s x out cnt sub d → ToTnc c st n (suc m) book good' s x out cnt sub (d ++ block_in (if_good good' (carries c (book (suc m)))))
    up_accepts st g' y lt fl u = record { gone = u.gone; books = u.books; acct = acct_accepts c n m book d good out st last pend j g' u.gone (line_le y.dns) lt fl y.one y.shape u.acct }

-- what step picks stands first in its store
Picked : (ℕ → List Block) → Pick → Type 0
Picked q poll_after_refusal = Unit {0}
Picked q (channel_poll c) = Unit {0}
Picked q (send_block_of c b) = (rest : List Block) × (q c ≡ b ∷ rest)
Picked q general_poll = Unit {0}

picked_else : (q : ℕ → List Block) (p : Pick) (k : ℕ) (l : List Block) → q k ≡ l → Picked q p → Picked q (or_else p l k)
unfolding Picked
picked_else q poll_after_refusal k l e h = tt
picked_else q (channel_poll c) k l e h = tt
picked_else q (send_block_of c b) k l e h = h
picked_else q general_poll k [] e h = tt
picked_else q general_poll k (b ∷ l) e h = (l, e)

picked_lowest : (q : ℕ → List Block) (k : ℕ) → Picked q (lowest_below k q)
unfolding Picked lowest_below
picked_lowest q zero = tt
picked_lowest q (suc k) = picked_else q (lowest_below k q) k (q k) refl (picked_lowest q k)

picked : (refused : Bool) (list : List ℕ) (q : ℕ → List Block) → Picked q (pick refused list q)
unfolding Picked
picked true l q = tt
picked false [] q = picked_lowest q channels
picked false (c ∷ l) q = tt

waits_in : (c : ℕ) (t : Bool) (q : ℕ → List Block) (p : Pick) → Picked q p → (rest : List Block) × (q c ≡ block_in (carries c (request_for t p)) ++ rest)
unfolding Picked
waits_in c t q poll_after_refusal h = (q c, rw (carried_empty c general empty refl))
waits_in c t q (channel_poll c') h = (q c, rw (carried_empty c c' empty refl))
waits_in c t q (send_block_of c' b) h = go (eqb c c') refl
  where
    go : (z : Bool) → eqb c c' ≡ z → (rest : List Block) × (q c ≡ block_in (cond z (holds b) empty) ++ rest)
    go true e = (h.0, rw (eqb-true c c' e) h.1)
    go false e = (q c, refl)
waits_in c t q general_poll h = (q c, rw (carried_empty c general empty refl))

pub step_waits : (c : ℕ) (t refused : Bool) (list : List ℕ) (q : ℕ → List Block) → (rest : List Block) × (q c ≡ block_in (carries c (request_for t (pick refused list q))) ++ rest)
step_waits c t refused list q = waits_in c t q (pick refused list q) (picked refused list q)

pub step_flag : (t : Bool) (p : Pick) → (request_for t p).reset ≡ false
step_flag t poll_after_refusal = refl
step_flag t (channel_poll c) = refl
step_flag t (send_block_of c b) = refl
step_flag t general_poll = refl

pub step_toggle : (t : Bool) (p : Pick) → (request_for t p).toggle ≡ t
step_toggle t poll_after_refusal = refl
step_toggle t (channel_poll c) = refl
step_toggle t (send_block_of c b) = refl
step_toggle t general_poll = refl
