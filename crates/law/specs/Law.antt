-- The delivery law: what was submitted, confirmed, doubtful, waiting and delivered, after each call
-- of any run.
use Rattle.std.specs.Prelude.{◌≡◌, ℕ, zero, suc, ◌<◌, ◌≤◌, false, ◌↔◌, List, [], ◌∷◌, ◌++◌, length}
use Rattle.std.specs.Prelude.{drop, nat_lt, slice_index_or, ⊤}
use Rattle.poll.specs.Channel.{last_channel}
use Rattle.wire.specs.Wire.{longest_wire}
use Rattle.store.specs.Meaning.{Block, Meaning, plain}
use Rattle.ends.specs.Limits.{last_number}
use Rattle.ends.specs.Host.{State, opening, on_its_way, down}
use Rattle.law.specs.Runs.{Named, confirmed, doubtful, Way, World, Limits, Call, host_timer, act}
use Rattle.law.specs.Runs.{Allowed, NotRepeated, Run, RepeatsNothing}

-- NOTHING LOST UNSAID, NOTHING DOUBLED

-- the submissions of a channel, what their sender has named of them, in order of naming, and
-- blocks: the numbers named are 1, 2, 3 and so on, and the blocks are every confirmed one and any
-- number of the doubtful ones, in order, each once
pub data Settled (submitted : List Block) : List Named → List Block → Type 0 where
  unnamed : Settled submitted [] []
  came : (x : List Named) (d : List Block) → length x < length submitted → Settled submitted x d
      → Settled submitted
      (x ++ confirmed (suc (length x)) ∷ [])
      (d ++ slice_index_or submitted (length x) (plain []) ∷ [])
  kept : (x : List Named) (d : List Block) → length x < length submitted → Settled submitted x d
      → Settled submitted
      (x ++ doubtful (suc (length x)) ∷ [])
      (d ++ slice_index_or submitted (length x) (plain []) ∷ [])
  lost : (x : List Named) (d : List Block) → length x < length submitted → Settled submitted x d
      → Settled submitted (x ++ doubtful (suc (length x)) ∷ []) d

-- nothing of a list, or its first
pub data AtMostFirst : List Block → List Block → Type 0 where
  none_of : {blocks : List Block} → AtMostFirst blocks []
  the_first : {b : Block} {blocks : List Block} → AtMostFirst (b ∷ blocks) (b ∷ [])

-- no doubt was reported
abbrev pub NoDoubt : List Named → Type 0
NoDoubt [] = ⊤
NoDoubt (confirmed n ∷ x) = NoDoubt x
NoDoubt (doubtful n ∷ x) = ⊥

-- the numbers named; and n numbers from k on
abbrev pub numbers : List Named → List ℕ
numbers [] = []
numbers (confirmed n ∷ x) = n ∷ numbers x
numbers (doubtful n ∷ x) = n ∷ numbers x

abbrev pub count_from : ℕ → ℕ → List ℕ
count_from k zero = []
count_from k (suc n) = k ∷ count_from (suc k) n

-- delivered on a channel: the blocks that its collects gave, followed by those that still wait in
-- the receiving store
abbrev pub delivered : Way → Meaning → ℕ → List Block
delivered y inn c = y.collected c ++ inn.waiting c

-- One way and one channel; out is the sending store, inn the receiving one.
-- settled, first, exact: delivered are all submissions that are confirmed, any number of those that
-- are doubtful, and of those that wait the first or none; they stand in the order in which they
-- were submitted, none twice and none changed.
-- named_in_order, within: the numbers named are 1 to some n, each once, and there are at least n
-- submissions; so each submission is confirmed, doubtful or, above n, waiting, and just one of
-- these. waiting: these last are what lies in the sending store, in order.
-- whole: until a doubt is reported, delivered is a beginning of the submissions.
pub record Delivers (y : Way) (out inn : Meaning) (c : ℕ) : Type 0 where
  pub sure : List Block
  pub extra : List Block
  pub settled : Settled (y.submitted c) (y.named c) sure
  pub first : AtMostFirst (out.waiting c) extra
  pub exact : delivered y inn c ≡ sure ++ extra
  pub named_in_order : numbers (y.named c) ≡ count_from 1 (length (y.named c))
  pub within : length (y.named c) ≤ length (y.submitted c)
  pub waiting : out.waiting c ≡ drop (length (y.named c)) (y.submitted c)
  pub whole : NoDoubt (y.named c)
      → (rest : List Block) × (y.submitted c ≡ delivered y inn c ++ rest)

-- both ways; and the number that a sender's submit answered last is the count of its submissions
pub record Delivery (w : World) (c : ℕ) : Type 0 where
  pub to_tnc : Delivers w.to_tnc w.host_out w.tnc_in c
  pub to_host : Delivers w.to_host w.tnc_out w.host_in c
  pub host_number : w.host.submitted c ≡ length (w.to_tnc.submitted c)
  pub tnc_number : w.tnc.submitted c ≡ length (w.to_host.submitted c)
  pub host_most : w.host.submitted c ≤ last_number
  pub tnc_most : w.tnc.submitted c ≤ last_number

-- THE LINK FALLS ONLY WHEN A TIMER HAS USED UP ITS REPEATS

-- a call takes the link down
pub record TakesDown (w v : World) : Type 0 where
  pub was_up : w.host.state ≡ down → ⊥
  pub is_down : v.host.state ≡ down

-- a frame is unanswered; in opening it is the reset
abbrev pub Unanswered : State → Type 0
Unanswered (opening r) = ⊤
Unanswered (on_its_way q r) = ⊤
Unanswered s = ⊥

-- a granted timer, and the frame that is unanswered has had all its repeats: as many as the run is
-- set to
pub record UsedUp (setting : ℕ) (w : World) (c : Call) : Type 0 where
  pub size : ℕ
  pub is_timer : c ≡ host_timer size
  pub fits : nat_lt size longest_wire ≡ false
  pub unanswered : Unanswered w.host.state
  pub had : w.tries ≡ setting

-- THE LAW, of every run that begins with new ends and with nothing in the stores, with any setting
-- and limits: the worlds that a run passes through are reached by runs too, so it holds after each
-- call

pub record DeliveryLaw : Type 0 where
  pub delivers : (setting : ℕ) (l : Limits) (w : World) → Run setting l w
      → (c : ℕ) → c ≤ last_channel → Delivery w c
  pub falls : (setting : ℕ) (l : Limits) (w : World) (r : Run setting l w) → RepeatsNothing r
      → (c : Call) → Allowed c w → NotRepeated c w
      → TakesDown w (act c w) ↔ UsedUp setting w c
