-- Counting what both lines may still pass, by what a frame shows: its flag and toggle.
use Rattle.std.proofs.Common.{◌≡◌, ℕ, zero, suc, pred, ◌+◌, ◌<◌, ◌≤◌, Bool, true, false, not, ◌&&◌, refl, arith}
use mathlib.Core.Bool.{beq}
use Rattle.ends.specs.Limits.{last_spare}
use Rattle.law.proofs.Count.{one}

abbrev pub Test : Type 0
Test = Bool → Bool → Bool

abbrev pub hit : Bool → Bool → Test
hit F T fl tg = beq fl F && beq tg T

abbrev pub miss : Bool → Test
miss T fl tg = not (hit false T fl tg)

abbrev pub every : Test
every fl tg = true

-- for each test, how many frames of both lines that may still pass meet it
abbrev pub Tally : Type 0
Tally = Test → ℕ

-- what the counting knows of the host's state; away: the toggle sent
pub data Phase : Type 0 where
  resting : Phase
  opening : ℕ → Phase
  ready : Phase
  away : Bool → ℕ → Phase

-- x is at most the count y, unless y has stopped at the cap
abbrev pub Most : ℕ → ℕ → ℕ → Type 0
Most cap x y = y < cap → x ≤ y

abbrev pub Bound : ℕ → Bool → ℕ → ℕ → Phase → Tally → Type 0
Bound setting gen spare resets resting c = Most (suc last_spare) (c (hit true gen)) resets
Bound setting gen spare resets (opening r) c = Most (suc last_spare) (c (hit true gen)) resets × (r ≤ setting)
Bound setting gen spare resets ready c = Most last_spare (c every) spare
Bound setting gen spare resets (away t r) c = Most last_spare (c (miss t)) spare × (c (hit false t) ≤ suc r) × (r ≤ setting)

-- how a call changes the tally
abbrev pub Wrote : Bool → Bool → Tally → Tally → Type 0
Wrote F T c d = (P : Test) → d P ≡ c P + one (P F T)

abbrev pub Passed : Bool → Bool → Tally → Tally → Type 0
Passed F T c d = (P : Test) → d P + one (P F T) ≤ c P

abbrev pub Fewer : Tally → Tally → Type 0
Fewer c d = (P : Test) → d P ≤ c P

-- tests
pub beq_refl : (b : Bool) → beq b b ≡ true
beq_refl true = refl
beq_refl false = refl

pub one_le : (b : Bool) → one b ≤ 1
one_le true = omega arith
one_le false = omega arith

pub hit_on : (F T : Bool) → one (hit F T F T) ≡ 1
hit_on F T = rw (beq_refl F, beq_refl T)

pub miss_off : (T : Bool) → one (miss T false T) ≡ 0
miss_off T = rw (beq_refl T)

pub miss_on : (T fl tg : Bool) → beq tg T ≡ false → one (miss T fl tg) ≡ 1
miss_on T true tg e = refl
miss_on T false tg e = rw e

-- fewer on the lines, all else alike
pub bound_fewer : (setting : ℕ) (gen : Bool) (spare resets : ℕ) (p : Phase) (c d : Tally) → Fewer c d → Bound setting gen spare resets p c → Bound setting gen spare resets p d
bound_fewer setting gen spare resets resting c d le b = let h = le (hit true gen) in omega arith
bound_fewer setting gen spare resets (opening r) c d le b = let h = le (hit true gen) in omega arith
bound_fewer setting gen spare resets ready c d le b = let h = le every in omega arith
bound_fewer setting gen spare resets (away t r) c d le b = let h = le (miss t) in let g = le (hit false t) in omega arith

pub passed_fewer : (F T : Bool) (c d : Tally) → Passed F T c d → Fewer c d
passed_fewer F T c d p P = let h = p P in omega arith

-- a reset is written: first or again
pub bound_open : (setting : ℕ) (gen : Bool) (spare resets more : ℕ) (c d : Tally) → Wrote true gen c d → (more < suc last_spare → more ≡ suc resets) → Bound setting gen spare resets resting c → Bound setting gen spare more (opening 0) d
bound_open setting gen spare resets more c d w m b = let h = w (hit true gen) in let g = one_le (hit true gen true gen) in omega arith

pub bound_reset_again : (setting : ℕ) (gen : Bool) (spare resets more r : ℕ) (c d : Tally) → Wrote true gen c d → (more < suc last_spare → more ≡ suc resets) → r < setting → Bound setting gen spare resets (opening r) c → Bound setting gen spare more (opening (suc r)) d
bound_reset_again setting gen spare resets more r c d w m lt b = let h = w (hit true gen) in let g = one_le (hit true gen true gen) in omega arith

-- a step: nothing on the lines shows the new toggle unflagged
pub bound_step : (setting : ℕ) (gen : Bool) (spare resets : ℕ) (t : Bool) (c d : Tally) → Wrote false t c d → c (hit false t) ≡ 0 → c (miss t) ≤ c every → Bound setting gen spare resets ready c → Bound setting gen spare resets (away t 0) d
bound_step setting gen spare resets t c d w z le b = let h = w (hit false t) in let g = w (miss t) in let o = miss_off t in let p = one_le (hit false t false t) in omega arith

pub bound_again : (setting : ℕ) (gen : Bool) (spare resets r : ℕ) (t : Bool) (c d : Tally) → Wrote false t c d → r < setting → Bound setting gen spare resets (away t r) c → Bound setting gen spare resets (away t (suc r)) d
bound_again setting gen spare resets r t c d w lt b = let h = w (hit false t) in let g = w (miss t) in let o = miss_off t in let p = one_le (hit false t false t) in omega arith

-- down by the timer
pub bound_down : (setting : ℕ) (gen : Bool) (spare resets : ℕ) (c : Tally) → c (hit true gen) ≡ 0 → Bound setting gen spare resets resting c
bound_down setting gen spare resets c z = omega arith

-- the answer that opens; what is left all shows this reset
pub bound_opened : (setting : ℕ) (gen : Bool) (spare resets left r : ℕ) (c d : Tally) → Passed true gen c d → d every ≡ d (hit true gen) → (left < last_spare → left ≡ pred resets) → (last_spare < resets → last_spare ≤ left) → Bound setting gen spare resets (opening r) c → Bound setting (not gen) left 0 ready d
bound_opened setting gen spare resets left r c d p e m n b = let h = p (hit true gen) in let g = hit_on true gen in omega arith

-- the answer that is taken; what is left all shows this frame
pub bound_taken : (setting : ℕ) (gen : Bool) (spare resets r : ℕ) (t : Bool) (c d : Tally) → Passed false t c d → d every ≡ d (hit false t) → Bound setting gen spare resets (away t r) c → Bound setting gen r resets ready d
bound_taken setting gen spare resets r t c d p e b = let h = p (hit false t) in let g = hit_on false t in omega arith

-- a late frame: spare is above 0, and lowered if it has not stopped
pub spare_ready : (setting : ℕ) (gen : Bool) (spare resets : ℕ) (fl tg : Bool) (c d : Tally) → Passed fl tg c d → Bound setting gen spare resets ready c → 0 < spare
spare_ready setting gen zero resets fl tg c d p b = let h = p every in let g = b (omega arith) in omega arith
spare_ready setting gen (suc spare) resets fl tg c d p b = omega arith

pub spare_away : (setting : ℕ) (gen : Bool) (spare resets r : ℕ) (t fl tg : Bool) (c d : Tally) → Passed fl tg c d → one (miss t fl tg) ≡ 1 → Bound setting gen spare resets (away t r) c → 0 < spare
spare_away setting gen zero resets r t fl tg c d p o b = let h = p (miss t) in let g = b.0 (omega arith) in omega arith
spare_away setting gen (suc spare) resets r t fl tg c d p o b = omega arith

pub late_ready : (setting : ℕ) (gen : Bool) (spare less resets : ℕ) (fl tg : Bool) (c d : Tally) → Passed fl tg c d → (less < last_spare → (less ≡ pred spare) × (spare < last_spare)) → Bound setting gen spare resets ready c → Bound setting gen less resets ready d
late_ready setting gen spare less resets fl tg c d p l b = let h = p every in λ u. let k = l u in let q = b k.1 in omega arith

pub late_away : (setting : ℕ) (gen : Bool) (spare less resets r : ℕ) (t fl tg : Bool) (c d : Tally) → Passed fl tg c d → one (miss t fl tg) ≡ 1 → (less < last_spare → (less ≡ pred spare) × (spare < last_spare)) → Bound setting gen spare resets (away t r) c → Bound setting gen less resets (away t r) d
late_away setting gen spare less resets r t fl tg c d p o l b = let h = p (miss t) in let g = p (hit false t) in (λ u. let k = l u in let q = b.0 k.1 in omega arith, omega arith, b.2)
