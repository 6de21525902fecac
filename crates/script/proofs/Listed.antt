-- Lists of bytes that pass a test, and what stands before the first that does not.
use Rattle.std.proofs.Common.{◌≡◌, ℕ, Bool, true, false, not, List, [], ◌∷◌, ◌++◌, length, take, drop, suc, refl, ap, ◌∙◌, arith, replicate, zero}
use Rattle.std.specs.List.{list_all, prefix_len, position_or_len, before_first}
use Rattle.std.proofs.lemmas.Bool.{and_parts}
use Rattle.std.proofs.lemmas.List.Folds.{list_all-append}
use Rattle.std.proofs.Math.Seq.{take-append_seam, drop-append_seam}

-- the first byte of a text, if there is one, fails
abbrev pub Stops : (ℕ → Bool) → List ℕ → Type 0
Stops p [] = Unit {0}
Stops p (c ∷ text) = p c ≡ false

pub passing_front : (p : ℕ → Bool) (xs rest : List ℕ) → list_all p xs ≡ true → Stops p rest
    → prefix_len p (xs ++ rest) ≡ length xs
passing_front p [] [] pass stop = refl
passing_front p [] (c ∷ rest) pass stop = rw stop
passing_front p (x ∷ xs) rest pass stop =
    let parts = and_parts (p x) (list_all p xs) pass in
    let tail = passing_front p xs rest parts.1 stop in
    rw (parts.0, tail) (omega arith)

-- the same of a test's first pass
pub before_pass : (p : ℕ → Bool) (xs rest : List ℕ) → list_all (λ c. not (p c)) xs ≡ true → Stops (λ c. not (p c)) rest
    → before_first p (xs ++ rest) ≡ xs
before_pass p xs rest pass stop =
    ap (λ n. take n (xs ++ rest)) (passing_front (λ c. not (p c)) xs rest pass stop) ∙ take-append_seam xs rest

pub from_pass : (p : ℕ → Bool) (xs rest : List ℕ) → list_all (λ c. not (p c)) xs ≡ true → Stops (λ c. not (p c)) rest
    → drop (position_or_len p (xs ++ rest)) (xs ++ rest) ≡ rest
from_pass p xs rest pass stop =
    ap (λ n. drop n (xs ++ rest)) (passing_front (λ c. not (p c)) xs rest pass stop) ∙ drop-append_seam xs rest

-- a weaker test
pub pass_on : (p q : ℕ → Bool) → ((c : ℕ) → p c ≡ true → q c ≡ true) → (xs : List ℕ) → list_all p xs ≡ true → list_all q xs ≡ true
pass_on p q weaker [] pass = refl
pass_on p q weaker (x ∷ xs) pass =
    let parts = and_parts (p x) (list_all p xs) pass in
    let head = weaker x parts.0 in
    let tail = pass_on p q weaker xs parts.1 in
    rw (head, tail)

pub pass_both : (p : ℕ → Bool) (xs ys : List ℕ) → list_all p xs ≡ true → list_all p ys ≡ true → list_all p (xs ++ ys) ≡ true
pass_both p xs ys one two = list_all-append p xs ys ∙ (rw (one, two))

pub pass_replicate : (p : ℕ → Bool) (n c : ℕ) → p c ≡ true → list_all p (replicate n c) ≡ true
pass_replicate p zero c pass = refl
pass_replicate p (suc n) c pass = let tail = pass_replicate p n c pass in rw (pass, tail)
