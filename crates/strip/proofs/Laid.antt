-- Laws of records that lie back to back.
use Rattle.std.proofs.Common.{◌≡◌, ℕ, zero, suc, ◌+◌, ◌-◌, ◌*◌, ◌<◌, ◌≤◌, true, List, [], ◌∷◌, ◌++◌, length, get_or, take, drop, sym, refl, ap, ◌∙◌, add-one, arith}
use lib.Seq.{paste}
use Rattle.std.specs.List.{AllByRecursion, remove}
use Rattle.std.proofs.lemmas.List.{append_assoc, append-nil, take_at, drop_at, length-append, drop_more, take-append-drop}
use Rattle.std.proofs.lemmas.List.Folds.{list_all-append}
use Rattle.std.proofs.lemmas.Grind.{flat_map-append}
use Rattle.std.proofs.lemmas.List.Edits.{length-remove}
use Rattle.std.proofs.lemmas.Bool.{and_parts, and_from, leb-true, le-leb}
use Rattle.poll.specs.Channel.{last_channel}
use Rattle.frame.specs.Frame.{longest_block}
use Rattle.store.specs.Meaning.{plain}
use Rattle.store.specs.Arrival.{Entry, Storable}
use Rattle.strip.specs.Records.{record_size, limit_of, record_of, laid, laid_over, parsed, storable_test, all_storable}

pub storable_parts : (x : Entry) → storable_test x ≡ true → (x.channel ≤ last_channel) × (1 ≤ length x.block.bytes) × (length x.block.bytes ≤ longest_block)
storable_parts x e =
    let p = and_parts _ _ e in
    let q = and_parts _ _ p.1 in
    (leb-true _ _ p.0, leb-true _ _ q.0, leb-true _ _ q.1)

pub storable_from : (x : Entry) → x.channel ≤ last_channel → 1 ≤ length x.block.bytes → length x.block.bytes ≤ longest_block → storable_test x ≡ true
storable_from x a b c = and_from _ _ (le-leb _ _ a) (and_from _ _ (le-leb _ _ b) (le-leb _ _ c))

pub storable_all : (xs : List Entry) → all_storable xs ≡ true → AllByRecursion Storable xs
storable_all [] e = tt
storable_all (x ∷ xs) e =
    let p = and_parts _ _ e in
    let q = storable_parts x p.0 in
    (record { channel_low = q.0; some = q.1; short = q.2 }, storable_all xs p.1)

pub storable_append : (xs ys : List Entry) → all_storable xs ≡ true → all_storable ys ≡ true → all_storable (xs ++ ys) ≡ true
storable_append xs ys e f = list_all-append storable_test xs ys ∙ and_from _ _ e f

pub storable_split : (n : ℕ) (xs : List Entry) → all_storable xs ≡ true → (all_storable (take n xs) ≡ true) × (all_storable (drop n xs) ≡ true)
storable_split n xs e = and_parts _ _ (sym (list_all-append storable_test (take n xs) (drop n xs)) ∙ ap all_storable (take-append-drop n xs) ∙ e)

storable_at : (xs : List Entry) (k : ℕ) (d : Entry) → k < length xs → all_storable xs ≡ true → storable_test (get_or xs k d) ≡ true
storable_at xs k d h e = (and_parts _ _ (sym (ap all_storable (drop_more xs k d h)) ∙ (storable_split k xs e).1)).0

pub length_parsed : (n : ℕ) (s : List ℕ) → length (parsed n s) ≡ n
length_parsed zero s = refl
length_parsed (suc n) s = ap suc (length_parsed n (drop (get_or s 1 0 + 3) s))

pub length_laid : (xs : List Entry) → all_storable xs ≡ true → length (laid xs) ≤ record_size * length xs
length_laid [] e = omega arith
length_laid (x ∷ xs) e =
    let p = and_parts _ _ e in
    let q = storable_parts x p.0 in
    let r = length_laid xs p.1 in
    let s = length-append x.block.bytes (laid xs) in
    omega arith

-- what is laid is parsed again, whatever follows
pub parsed_laid : (xs : List Entry) (t : List ℕ) → all_storable xs ≡ true → parsed (length xs) (laid xs ++ t) ≡ xs
parsed_laid [] t e = refl
parsed_laid (x ∷ xs) t e =
    let p = and_parts _ _ e in
    let q = storable_parts x p.0 in
    let b : List ℕ = x.block.bytes in
    let n : length b - 1 + 1 ≡ length b = omega arith in
    let s : laid (x ∷ xs) ++ t ≡ x.channel ∷ (length b - 1) ∷ (b ++ (laid xs ++ t)) =
    ap (λ (v : List ℕ). x.channel ∷ (length b - 1) ∷ v) (append_assoc b (laid xs) t) in
    let hd : List ℕ → Entry = λ v. record { channel = x.channel; block = plain v } in
    let f : take (length b - 1 + 1) (b ++ (laid xs ++ t)) ≡ b = take_at b (laid xs ++ t) (length b - 1 + 1) (omega arith) in
    let g : drop (length b - 1 + 3) (x.channel ∷ (length b - 1) ∷ (b ++ (laid xs ++ t))) ≡ laid xs ++ t =
    drop_at (record_of x) (laid xs ++ t) (length b - 1 + 3) (omega arith) in
    ap (parsed (suc (length xs))) s
    ∙ ap (λ (v : List ℕ). hd v ∷ parsed (length xs) (drop (length b - 1 + 3) (x.channel ∷ (length b - 1) ∷ (b ++ (laid xs ++ t))))) f
    ∙ ap (λ (v : List ℕ). x ∷ parsed (length xs) v) g
    ∙ ap (λ (v : List Entry). x ∷ v) (parsed_laid xs t p.1)

-- an area that was `old` before, now with the records xs and nothing else written
pub record Holds (xs : List Entry) (old area : List ℕ) (held used : ℕ) : Type 0 where
  pub items : parsed held area ≡ xs
  pub storable : all_storable (parsed held area) ≡ true
  pub long : length (laid (parsed held area)) ≡ used
  pub whole : area ≡ laid (parsed held area) ++ drop used area
  pub only : area ≡ laid_over (parsed held area) old

pub rebuilt :
    (xs : List Entry) (old area : List ℕ) (held used : ℕ)
    → area ≡ laid xs ++ drop used old
    → all_storable xs ≡ true
    → length xs ≡ held
    → length (laid xs) ≡ used
    → Holds xs old area held used
rebuilt xs old area held used e f lh lu =
    let t : List ℕ = drop used old in
    let i : parsed held area ≡ xs = ap (λ (k : ℕ). parsed k area) (sym lh) ∙ ap (parsed (length xs)) e ∙ parsed_laid xs t f in
    let d : drop used area ≡ t = ap (drop used) e ∙ drop_at (laid xs) t used lu in
    record {
      items = i;
      storable = ap all_storable i ∙ f;
      long = ap (λ (v : List Entry). length (laid v)) i ∙ lu;
      whole = e ∙ ap (λ (v : List Entry). laid v ++ t) (sym i) ∙ ap (λ (v : List ℕ). laid (parsed held area) ++ v) (sym d);
      only = e ∙ ap (λ (n : ℕ). laid xs ++ drop n old) (sym lu) ∙ ap (λ (v : List Entry). laid_over v old) (sym i);
    }

pub split_laid :
    (xs : List Entry) (k : ℕ) (d : Entry) → k < length xs → laid xs ≡ laid (take k xs) ++ (record_of (get_or xs k d) ++ laid (drop (k + 1) xs))
split_laid xs k d h =
    ap laid (sym (take-append-drop k xs)) ∙ flat_map-append record_of (take k xs) (drop k xs) ∙ ap (λ (v : List Entry). laid (take k xs) ++ laid v) (drop_more xs k d h)

pub roomy :
    (held used n : ℕ) (xs : List Entry) → all_storable xs ≡ true → length xs ≡ held → length (laid xs) ≡ used → held ≤ limit_of n → (held ≡ limit_of n → ⊥) → used + record_size ≤ n
roomy held used n xs f lh lu r ne = let b = length_laid xs f in omega arith

pub put_holds :
    (area area' : List ℕ) (held used used' c : ℕ) (b : List ℕ)
    → all_storable (parsed held area) ≡ true
    → length (laid (parsed held area)) ≡ used
    → area ≡ laid (parsed held area) ++ drop used area
    → c ≤ last_channel
    → 1 ≤ length b
    → length b ≤ longest_block
    → used' ≡ used + 2 + length b
    → area' ≡ (take used area ++ (c ∷ (length b - 1) ∷ b)) ++ drop (used + 2 + length b) area
    → Holds (parsed held area ++ record { channel = c; block = plain b } ∷ []) area area' (held + 1) used'
put_holds area area' held used used' c b f lu w low some short lu' e =
    let xs : List Entry = parsed held area in
    let x : Entry = record { channel = c; block = plain b } in
    let t : List ℕ = drop used' area in
    let pre : take used area ≡ laid xs = ap (take used) w ∙ take_at (laid xs) (drop used area) used lu in
    let ly : laid (xs ++ x ∷ []) ≡ laid xs ++ record_of x =
    flat_map-append record_of xs (x ∷ []) ∙ ap (λ (v : List ℕ). laid xs ++ v) (append-nil (record_of x)) in
    let eq : area' ≡ laid (xs ++ x ∷ []) ++ t =
    e ∙ ap (λ (n : ℕ). (take used area ++ record_of x) ++ drop n area) (sym lu') ∙ ap (λ (v : List ℕ). (v ++ record_of x) ++ t) pre ∙ ap (λ (v : List ℕ). v ++ t) (sym ly) in
    let lp = length_parsed held area in
    let l1 = length-append xs (x ∷ []) in
    let l2 = length-append (laid xs) (record_of x) in
    rebuilt (xs ++ x ∷ []) area area' (held + 1) used' eq
    (storable_append xs (x ∷ []) f (and_from _ _ (storable_from x low some short) refl))
    (omega arith)
    (ap length ly ∙ omega arith)

-- where the record k lies, and its block
pub record Lies (xs : List Entry) (area : List ℕ) (at : ℕ) (x : Entry) : Type 0 where
  pub fits : at + 2 + length x.block.bytes ≤ length (laid xs)
  pub inside : length (laid xs) ≤ length area
  pub block : take (length x.block.bytes) (drop (at + 2) area) ≡ x.block.bytes
  pub some : 1 ≤ length x.block.bytes
  pub short : length x.block.bytes ≤ longest_block

pub lies :
    (xs : List Entry) (t area : List ℕ) (k at : ℕ) (d : Entry)
    → area ≡ laid xs ++ t
    → all_storable xs ≡ true
    → k < length xs
    → at ≡ length (laid (take k xs))
    → Lies xs area at (get_or xs k d)
lies xs t area k at d e f h la =
    let x : Entry = get_or xs k d in
    let b : List ℕ = x.block.bytes in
    let p : List ℕ = laid (take k xs) in
    let q : List ℕ = laid (drop (k + 1) xs) in
    let sp = split_laid xs k d h in
    let fp = storable_parts x (storable_at xs k d h f) in
    let eq : area ≡ (p ++ (x.channel ∷ (length b - 1) ∷ [])) ++ (b ++ (q ++ t)) = e ∙ ap (λ (v : List ℕ). v ++ t) sp ∙ simp append_assoc in
    let l1 = length-append p (record_of x ++ q) in
    let l2 = length-append b q in
    let l3 = ap length sp in
    let l4 = ap length e ∙ length-append (laid xs) t in
    let l5 = length-append p (x.channel ∷ (length b - 1) ∷ []) in
    record {
      fits = omega arith;
      inside = omega arith;
      block = ap (λ (v : List ℕ). take (length b) (drop (at + 2) v)) eq
          ∙ ap (take (length b)) (drop_at (p ++ (x.channel ∷ (length b - 1) ∷ [])) (b ++ (q ++ t)) (at + 2) (omega arith))
          ∙ take_at b (q ++ t) (length b) refl;
      some = fp.1;
      short = fp.2;
    }

-- a record taken out, and those above it moved down
pub drop_holds :
    (xs : List Entry) (t area area' : List ℕ) (k at from used used' held : ℕ) (d : Entry)
    → area ≡ laid xs ++ t
    → all_storable xs ≡ true
    → length xs ≡ held
    → length (laid xs) ≡ used
    → k < length xs
    → at ≡ length (laid (take k xs))
    → from ≡ at + length (record_of (get_or xs k d))
    → used' ≡ at + (used - from)
    → area' ≡ paste area at (drop from area) (used - from)
    → Holds (remove xs k) area area' (held - 1) used'
drop_holds xs t area area' k at from used used' held d e f lh lu h la ln lu' ea =
    let x : Entry = get_or xs k d in
    let p : List ℕ = laid (take k xs) in
    let q : List ℕ = laid (drop (k + 1) xs) in
    let sp = split_laid xs k d h in
    let l1 = length-append p (record_of x ++ q) in
    let l2 = length-append (record_of x) q in
    let l3 = ap length sp in
    let l4 = length-append p (record_of x) in
    let eq : area ≡ p ++ ((record_of x ++ q) ++ t) = e ∙ ap (λ (v : List ℕ). v ++ t) sp ∙ append_assoc p (record_of x ++ q) t in
    let eq2 : area ≡ (p ++ record_of x) ++ (q ++ t) = eq ∙ simp append_assoc in
    let tk : take at area ≡ p = ap (take at) eq ∙ take_at p ((record_of x ++ q) ++ t) at (sym la) in
    let dr : drop from area ≡ q ++ t = ap (drop from) eq2 ∙ drop_at (p ++ record_of x) (q ++ t) from (omega arith) in
    let mid : take (used - from) (drop from area) ≡ q =
    ap (take (used - from)) dr ∙ take_at q t (used - from) (omega arith) in
    let lr : laid (remove xs k) ≡ p ++ q =
    flat_map-append record_of (take k xs) (drop (suc k) xs) ∙ ap (λ (i : ℕ). p ++ laid (drop i xs)) (sym (add-one k)) in
    let r : List ℕ = drop used' area in
    let fin : area' ≡ laid (remove xs k) ++ r =
    ea ∙ ap (λ (n : ℕ). take at area ++ take (used - from) (drop from area) ++ drop n area) (sym lu') ∙ ap (λ (v : List ℕ). (v ++ take (used - from) (drop from area)) ++ r) tk
    ∙ ap (λ (v : List ℕ). (p ++ v) ++ r) mid
    ∙ ap (λ (v : List ℕ). v ++ r) (sym lr) in
    let lx = length-remove xs k h in
    let l5 = length-append p q in
    rebuilt (remove xs k) area area' (held - 1) used' fin
    (storable_append (take k xs) (drop (suc k) xs) (storable_split k xs f).0 (storable_split (suc k) xs f).1)
    (omega arith)
    (ap length lr ∙ omega arith)
