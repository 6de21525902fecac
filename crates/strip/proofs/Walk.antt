-- Laws of going over the records of an area.
use Rattle.std.proofs.Common.{◌≡◌, ℕ, suc, ◌+◌, ◌-◌, ◌<◌, ◌≤◌, true, false, cond, eqb, filter, Option, Some, None, List, [], ◌∷◌, ◌++◌, length, take, drop, slice_index, slice_index_or, sym, refl, ap, ◌∙◌, arith}
use Rattle.std.proofs.lemmas.List.{append_assoc, drop_at, take_all, length-append, length-drop}
use Rattle.std.proofs.lemmas.Bool.{and_parts}
use Rattle.std.specs.List.{find}
use Rattle.store.specs.Arrival.{Entry, on, place_of}
use Rattle.store.proofs.Places.{eqb_turned}
use Rattle.strip.specs.Records.{record_of, laid, laid_over, front_of, parsed, all_storable}
use Rattle.strip.specs.declared.records.Record.{Record}
use Rattle.strip.specs.Walk.{placed}
use Rattle.strip.specs.Shown.{no_entry}
use Rattle.strip.proofs.Laid.{storable_parts}

-- what is left after one record
pub record Stepped (s s' : List ℕ) (left' : ℕ) : Type 0 where
  pub len : slice_index s 1 + 1 ≡ length (front_of s).block.bytes
  pub fits : slice_index s 1 + 3 + length s' ≡ length s
  pub next : (at : ℕ) → placed at (parsed (suc left') s) ≡ record { at = at; channel = slice_index s 0; len = slice_index s 1 + 1 } ∷ placed (at + (slice_index s 1 + 1 + 2)) (parsed left' s')
  pub storable : all_storable (parsed left' s') ≡ true
  pub whole : s' ≡ laid_over (parsed left' s') s'

stepped_one : (s : List ℕ) (m : ℕ) → all_storable (parsed (suc m) s) ≡ true → s ≡ laid_over (parsed (suc m) s) s → Stepped s (drop (slice_index s 1 + 3) s) m
stepped_one s m f e =
    let x : Entry = front_of s in
    let b : List ℕ = x.block.bytes in
    let ys : List Entry = parsed m (drop (slice_index s 1 + 3) s) in
    let t : List ℕ = drop (length (laid (x ∷ ys))) s in
    let p = and_parts _ _ f in
    let q = storable_parts x p.0 in
    let less : slice_index s 1 ≡ length b - 1 = ap (λ (v : List ℕ). slice_index v 1) e in
    let split : s ≡ record_of x ++ (laid ys ++ t) = e ∙ append_assoc (record_of x) (laid ys) t in
    let rest : drop (slice_index s 1 + 3) s ≡ laid ys ++ t = ap (drop (slice_index s 1 + 3)) split ∙ drop_at (record_of x) (laid ys ++ t) (slice_index s 1 + 3) (omega arith) in
    let l1 = ap length split in
    let l2 = ap length rest in
    let l3 = length-append (record_of x) (laid ys ++ t) in
    let len : slice_index s 1 + 1 ≡ length b = omega arith in
    let two : suc (suc (slice_index s 1 + 1)) ≡ slice_index s 1 + 1 + 2 = omega arith in
    record {
      len = len;
      next = λ at.
          ap (λ (k : ℕ). record { at = at; channel = slice_index s 0; len = k } ∷ placed (at + suc (suc k)) ys) (sym len)
          ∙ ap (λ (k : ℕ). record { at = at; channel = slice_index s 0; len = slice_index s 1 + 1 } ∷ placed (at + k) ys) two;
      fits = omega arith;
      storable = p.1;
      whole = rest ∙ ap (λ (v : List ℕ). laid ys ++ v) (sym (ap (drop (length (laid ys))) rest ∙ drop_at (laid ys) t (length (laid ys)) refl));
    }

pub stepped :
    (s : List ℕ) (left n k : ℕ)
    → all_storable (parsed left s) ≡ true
    → s ≡ laid_over (parsed left s) s
    → (left ≡ 0 → ⊥)
    → n ≡ slice_index s 1 + 1 + 2
    → length s ≡ k
    → Stepped s (take (k - n) (drop n s)) (left - 1)
stepped s left n k f e ne ln lk =
    let m : suc (left - 1) ≡ left = omega arith in
    let l = length-drop n s in
    let eq : drop (slice_index s 1 + 3) s ≡ take (k - n) (drop n s) =
    ap (λ (i : ℕ). drop i s) (let z : slice_index s 1 + 3 ≡ n = omega arith in z) ∙ sym (take_all (k - n) (drop n s) (omega arith)) in
    rw eq at (stepped_one s (left - 1) (ap (λ (j : ℕ). all_storable (parsed j s)) m ∙ f) (e ∙ ap (λ (j : ℕ). laid_over (parsed j s) s) (sym m)))

pub walked :
    (s : List ℕ) (left n k at : ℕ)
    → all_storable (parsed left s) ≡ true
    → s ≡ laid_over (parsed left s) s
    → (left ≡ 0 → ⊥)
    → n ≡ slice_index s 1 + 1 + 2
    → length s ≡ k
    → placed at (parsed left s) ≡ record { at = at; channel = slice_index s 0; len = slice_index s 1 + 1 } ∷ placed (at + n) (parsed (left - 1) (take (k - n) (drop n s)))
walked s left n k at f e ne ln lk =
    let m : left ≡ suc (left - 1) = omega arith in
    let p = stepped s left n k f e ne ln lk in
    ap (λ (j : ℕ). placed at (parsed j s)) m ∙ p.next at
    ∙ ap (λ (j : ℕ). record { at = at; channel = slice_index s 0; len = slice_index s 1 + 1 } ∷ placed (at + j) (parsed (left - 1) (take (k - n) (drop n s)))) (sym ln)

-- what a search of the records finds at the place p, where they lie from `at` on
abbrev pub FoundAt : ℕ → List Entry → ℕ → Option Record → Type 0
FoundAt at xs p None = length xs ≤ p
FoundAt at xs p (Some r) = (p < length xs) × (r.at ≡ at + length (laid (take p xs))) × (r.len ≡ length (slice_index_or xs p no_entry).block.bytes)

found_later : (at p : ℕ) (x : Entry) (xs : List Entry) (o : Option Record) → FoundAt (at + length (record_of x)) xs p o → FoundAt at (x ∷ xs) (suc p) o
found_later at p x xs None h = omega arith
found_later at p x xs (Some r) h =
    let l = length-append (record_of x) (laid (take p xs)) in
    let here = h.0 in
    let begins = h.1 in
    (omega arith, omega arith, h.2)

pub found : (c at : ℕ) (xs : List Entry) → FoundAt at xs (place_of c xs) (find (λ r. eqb r.channel c) (placed at xs))
found c at [] = omega arith
found c at (x ∷ xs) =
    let later = found_later at (place_of c xs) x xs _ (found c (at + length (record_of x)) xs) in
    let first : Record = record { at = at; channel = x.channel; len = length x.block.bytes } in
    let rest : Option Record = find (λ r. eqb r.channel c) (placed (at + length (record_of x)) xs) in
    rw (eqb_turned x.channel c)
    (elim (eqb c x.channel) as (λ b. FoundAt at (x ∷ xs) (cond b 0 (suc (place_of c xs))) (cond b (Some first) rest))
    [ true ↦ (omega arith, omega arith, refl) | false ↦ later ])

-- and how many it counts
pub counted : (c at : ℕ) (xs : List Entry) → length (filter (λ r. eqb r.channel c) (placed at xs)) ≡ length (on c xs)
counted c at [] = refl
counted c at (x ∷ xs) =
    let later = counted c (at + length (record_of x)) xs in
    let first : Record = record { at = at; channel = x.channel; len = length x.block.bytes } in
    let rest : List Record = filter (λ r. eqb r.channel c) (placed (at + length (record_of x)) xs) in
    rw (eqb_turned x.channel c)
    (elim (eqb c x.channel) as (λ b. length (cond b (first ∷ rest) rest) ≡ length (cond b (x.block ∷ on c xs) (on c xs)))
    [ true ↦ ap suc later | false ↦ later ])
