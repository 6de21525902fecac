-- Laws of stuffing, of writing over a buffer, and of the wire form.
use Rattle.std.proofs.Common.{◌≡◌, ℕ, ◌+◌, ◌*◌, ◌<◌, ◌≤◌, true, false, cond, eqb, List, [], ◌∷◌, ◌++◌, length, get_or, take, drop, set, sym, refl, ap, ◌∙◌, ap₂, append_assoc, append-nil, zero-add, add-one, arith, length-append, subst}
use lib.Seq.{paste}
use Rattle.std.proofs.lemmas.List.{take_more, set_split, take-append-drop, take_all}
use Rattle.std.proofs.lemmas.List.Edits.{paste_none, paste-paste, take-paste, drop-paste, length-paste}
use Rattle.std.proofs.lemmas.Bool.{cond-true, cond-false, eq-eqb, ne_eqb}
use Rattle.fcs.specs.Fcs.{extended, check_bytes, check_of}
use Rattle.fcs.proofs.Extended.{extended_append}
use Rattle.wire.specs.Wire.{stuff, stuffed, over, wire_of}

pub stuffed_append : (xs ys : List ℕ) → stuffed (xs ++ ys) ≡ stuffed xs ++ stuffed ys
unfolding stuffed
stuffed_append [] ys = refl
stuffed_append (x ∷ xs) ys = ap (λ (l : List ℕ). stuff x ++ l) (stuffed_append xs ys) ∙ sym (append_assoc (stuff x) (stuffed xs) (stuffed ys))

pub stuffed_one : (x : ℕ) → stuffed (x ∷ []) ≡ stuff x
unfolding stuffed
stuffed_one x = append-nil (stuff x)

pub stuffed_none : stuffed [] ≡ []
unfolding stuffed
stuffed_none = refl

pub stuffed_more : (xs : List ℕ) (i : ℕ) → i < length xs → stuffed (take (i + 1) xs) ≡ stuffed (take i xs) ++ stuff (get_or xs i 0)
stuffed_more xs i h =
    ap stuffed (take_more xs i 0 h) ∙ stuffed_append (take i xs) (get_or xs i 0 ∷ [])
    ∙ ap (λ (l : List ℕ). stuffed (take i xs) ++ l) (stuffed_one (get_or xs i 0))

-- what a part takes is within what all take
pub stuffed_part : (xs : List ℕ) (i : ℕ) → length (stuffed (take i xs)) ≤ length (stuffed xs)
stuffed_part xs i =
    let e : length (stuffed xs) ≡ length (stuffed (take i xs)) + length (stuffed (drop i xs)) =
    ap (λ (l : List ℕ). length (stuffed l)) (sym (take-append-drop i xs)) ∙ ap length (stuffed_append (take i xs) (drop i xs))
    ∙ length-append (stuffed (take i xs)) (stuffed (drop i xs)) in
    omega arith

pub length_more : (xs : List ℕ) (i : ℕ) → i < length xs → length (stuffed (take (i + 1) xs)) ≡ length (stuffed (take i xs)) + length (stuff (get_or xs i 0))
length_more xs i h = ap length (stuffed_more xs i h) ∙ length-append (stuffed (take i xs)) (stuff (get_or xs i 0))

pub length_stuff : (b : ℕ) → length (stuff b) ≡ cond (eqb b 170) 2 1
length_stuff b = elim (eqb b 170) as (λ t. length (cond t (b ∷ 0 ∷ []) (b ∷ [])) ≡ cond t 2 1) [ true ↦ refl | false ↦ refl ]

pub over_none : (d : List ℕ) (at : ℕ) → over d at [] ≡ d
unfolding over
over_none d at = sym (paste_none d at [])

pub over_over : (d : List ℕ) (at : ℕ) (s t : List ℕ) (n : ℕ) → at ≤ length d → n ≡ at + length s → over (over d at s) n t ≡ over d at (s ++ t)
unfolding over
over_over d at s t n h e =
    ap (λ (k : ℕ). over (over d at s) k t) e
    ∙ paste-paste d at s t (length s) (length t) refl refl h
    ∙ ap (paste d at (s ++ t)) (sym (length-append s t))

pub over_one : (d : List ℕ) (at b : ℕ) → at < length d → set d at b ≡ over d at (b ∷ [])
unfolding over
over_one d at b h = set_split d at b h ∙ simp (append_assoc, add-one)

pub stuff_mark : (b : ℕ) → b ≡ 170 → stuff b ≡ b ∷ 0 ∷ []
stuff_mark b e = cond-true (eqb b 170) (b ∷ 0 ∷ []) (b ∷ []) (eq-eqb b 170 e)

pub stuff_other : (b : ℕ) → (b ≡ 170 → ⊥) → stuff b ≡ b ∷ []
stuff_other b ne = cond-false (eqb b 170) (b ∷ 0 ∷ []) (b ∷ []) (ne_eqb b 170 ne)

pub length_other : (b : ℕ) → (b ≡ 170 → ⊥) → length (stuff b) ≡ 1
length_other b ne = length_stuff b ∙ cond-false (eqb b 170) 2 1 (ne_eqb b 170 ne)

pub wire_parts : (body : List ℕ) → wire_of body ≡ (170 ∷ 170 ∷ []) ++ stuffed body ++ stuffed (check_of body)
unfolding wire_of
wire_parts body = ap (λ (l : List ℕ). 170 ∷ 170 ∷ l) (stuffed_append body (check_of body))

pub length_wire : (body : List ℕ) → length (wire_of body) ≡ 2 + length (stuffed body) + length (stuffed (check_of body))
length_wire body = ap length (wire_parts body) ∙ length-append ((170 ∷ 170 ∷ []) ++ stuffed body) (stuffed (check_of body)) ∙ ap (λ (n : ℕ). n + length (stuffed (check_of body))) (length-append (170 ∷ 170 ∷ []) (stuffed body))

pub take_over : (d s : List ℕ) (n : ℕ) → n ≡ length s → take n (over d 0 s) ≡ s
unfolding over
take_over d s n e = ap (λ (k : ℕ). take k (over d 0 s)) (e ∙ sym (zero-add (length s))) ∙ take-paste d 0 s (length s) (omega arith) (omega arith) ∙ take_all (length s) s (omega arith)

pub drop_over : (d s : List ℕ) (n : ℕ) → n ≡ length s → drop n (over d 0 s) ≡ drop n d
unfolding over
drop_over d s n e =
    let z : n ≡ 0 + length s = omega arith in
    ap (λ (k : ℕ). drop k (over d 0 s)) z ∙ drop-paste d 0 s (length s) (omega arith) (omega arith) ∙ ap (λ (k : ℕ). drop k d) (sym z)

-- the wire form of a body in three parts
pub parts_wire : (f p b : List ℕ)
    → wire_of (f ++ p ++ b) ≡ (170 ∷ 170 ∷ []) ++ stuffed f ++ stuffed p ++ stuffed b ++ stuffed (check_of (f ++ p ++ b))
parts_wire f p b =
    wire_parts (f ++ p ++ b)
    ∙ ap (λ (l : List ℕ). (170 ∷ 170 ∷ []) ++ l ++ stuffed (check_of (f ++ p ++ b)))
    (stuffed_append (f ++ p) b ∙ ap (λ (l : List ℕ). l ++ stuffed b) (stuffed_append f p))

pub parts_length : (f p b : List ℕ)
    → length (wire_of (f ++ p ++ b)) ≡ 2 + length (stuffed f) + length (stuffed p) + length (stuffed b) + length (stuffed (check_of (f ++ p ++ b)))
parts_length f p b =
    ap length (parts_wire f p b)
    ∙ length-append ((170 ∷ 170 ∷ []) ++ stuffed f ++ stuffed p ++ stuffed b) (stuffed (check_of (f ++ p ++ b)))
    ∙ ap (λ (n : ℕ). n + length (stuffed (check_of (f ++ p ++ b))))
    (length-append ((170 ∷ 170 ∷ []) ++ stuffed f ++ stuffed p) (stuffed b)
    ∙ ap (λ (n : ℕ). n + length (stuffed b))
    (length-append ((170 ∷ 170 ∷ []) ++ stuffed f) (stuffed p)
    ∙ ap (λ (n : ℕ). n + length (stuffed p)) (length-append (170 ∷ 170 ∷ []) (stuffed f))))

-- the register over three parts, one after the other
pub parts_check : (f p b check : List ℕ) (r s t : ℕ) → r ≡ extended 65535 f → s ≡ extended r p → t ≡ extended s b → check ≡ check_bytes t → check ≡ check_of (f ++ p ++ b)
parts_check f p b check r s t er es et e =
    e ∙ ap check_bytes
    (et ∙ ap (λ (x : ℕ). extended x b) (es ∙ ap (λ (x : ℕ). extended x p) er)
    ∙ ap (λ (x : ℕ). extended x b) (sym (extended_append 65535 f p)) ∙ sym (extended_append 65535 (f ++ p) b))

-- the marks and four pieces, written one after the other, are the wire form of a body in three parts
pub sealed : (d w1 w2 w3 w4 w5 w6 f p b check : List ℕ) (k l m n : ℕ) → length (wire_of (f ++ p ++ b)) ≤ length d → check ≡ check_of (f ++ p ++ b)
    → k ≡ 2 → l ≡ k + length (stuffed f) → m ≡ l + length (stuffed p) → n ≡ m + length (stuffed b)
    → w1 ≡ over d 0 (170 ∷ []) → w2 ≡ over w1 1 (170 ∷ []) → w3 ≡ over w2 k (stuffed f) → w4 ≡ over w3 l (stuffed p)
    → w5 ≡ over w4 m (stuffed b) → w6 ≡ over w5 n (stuffed check) → w6 ≡ over d 0 (wire_of (f ++ p ++ b))
sealed d w1 w2 w3 w4 w5 w6 f p b check k l m n fits ec hk hl hm hn e1 e2 e3 e4 e5 e6 =
    let marks : List ℕ = 170 ∷ 170 ∷ [] in
    let long = parts_length f p b in
    let la = length-append marks (stuffed f) in
    let lb = length-append (marks ++ stuffed f) (stuffed p) in
    let lc = length-append (marks ++ stuffed f ++ stuffed p) (stuffed b) in
    let a1 : w2 ≡ over d 0 marks = e2 ∙ ap (λ (w : List ℕ). over w 1 (170 ∷ [])) e1 ∙ over_over d 0 (170 ∷ []) (170 ∷ []) 1 (omega arith) refl in
    let a2 : w3 ≡ over d 0 (marks ++ stuffed f) = e3 ∙ ap (λ (w : List ℕ). over w k (stuffed f)) a1 ∙ over_over d 0 marks (stuffed f) k (omega arith) (omega arith) in
    let a3 : w4 ≡ over d 0 (marks ++ stuffed f ++ stuffed p) = e4 ∙ ap (λ (w : List ℕ). over w l (stuffed p)) a2 ∙ over_over d 0 (marks ++ stuffed f) (stuffed p) l (omega arith) (omega arith) in
    let a4 : w5 ≡ over d 0 (marks ++ stuffed f ++ stuffed p ++ stuffed b) = e5 ∙ ap (λ (w : List ℕ). over w m (stuffed b)) a3 ∙ over_over d 0 (marks ++ stuffed f ++ stuffed p) (stuffed b) m (omega arith) (omega arith) in
    e6 ∙ ap₂ (λ (w x : List ℕ). over w n (stuffed x)) a4 ec
    ∙ over_over d 0 (marks ++ stuffed f ++ stuffed p ++ stuffed b) (stuffed (check_of (f ++ p ++ b))) n (omega arith) (omega arith)
    ∙ ap (over d 0) (sym (parts_wire f p b))

-- what is written from the start on stands before the rest of the buffer
pub over_start : (d s : List ℕ) → over d 0 s ≡ s ++ drop (length s) d
over_start d s =
    sym (take-append-drop (length s) (over d 0 s))
    ∙ ap₂ (λ (x y : List ℕ). x ++ y) (take_over d s (length s) refl) (drop_over d s (length s) refl)

pub length_most : (b : ℕ) → length (stuff b) ≤ 2
length_most b = elim (eqb b 170) as (λ t. length (cond t (b ∷ 0 ∷ []) (b ∷ [])) ≤ 2) [ true ↦ omega arith | false ↦ omega arith ]

pub length_cons : (x : ℕ) (xs : List ℕ) → length (stuffed (x ∷ xs)) ≡ length (stuff x) + length (stuffed xs)
unfolding stuffed
length_cons x xs = length-append (stuff x) (stuffed xs)

pub stuffed_double : (xs : List ℕ) → length (stuffed xs) ≤ 2 * length xs
stuffed_double [] = let z = ap length stuffed_none in omega arith
stuffed_double (x ∷ xs) = omega (arith, length_cons x xs, length_most x, stuffed_double xs)

-- Facts that no answer needs now; they stand for whoever builds on them.

pub length_over : (d : List ℕ) (at : ℕ) (s : List ℕ) → at + length s ≤ length d → length (over d at s) ≡ length d
unfolding over
length_over d at s h = length-paste d at s (length s) h (omega arith)

pub put_mark : (d : List ℕ) (at b : ℕ) → b ≡ 170 → at + 1 < length d → set (set d at b) (at + 1) 0 ≡ over d at (stuff b)
put_mark d at b e h =
    subst (λ (x : ℕ). set (set d at x) (at + 1) 0 ≡ over d at (stuff x)) (sym e)
    (ap (λ (l : List ℕ). set l (at + 1) 0) (over_one d at 170 (omega arith))
    ∙ over_one (over d at (170 ∷ [])) (at + 1) 0 (omega (arith, length_over d at (170 ∷ []) (omega arith)))
    ∙ over_over d at (170 ∷ []) (0 ∷ []) (at + 1) (omega arith) refl)

pub put_other : (d : List ℕ) (at b : ℕ) → (b ≡ 170 → ⊥) → at < length d → set d at b ≡ over d at (stuff b)
put_other d at b ne h = over_one d at b h ∙ ap (over d at) (sym (cond-false (eqb b 170) (b ∷ 0 ∷ []) (b ∷ []) (ne_eqb b 170 ne)))

pub over_marks : (d : List ℕ) → 2 ≤ length d → set (set d 0 170) 1 170 ≡ over d 0 (170 ∷ 170 ∷ [])
over_marks d h =
    ap (λ (l : List ℕ). set l 1 170) (over_one d 0 170 (omega arith))
    ∙ over_one (over d 0 (170 ∷ [])) 1 170 (omega (arith, length_over d 0 (170 ∷ []) (omega arith)))
    ∙ over_over d 0 (170 ∷ []) (170 ∷ []) 1 (omega arith) refl

-- four pieces written one after the other are written at once
pub over_four : (d : List ℕ) (a b c e : List ℕ) (k l m n : ℕ) → 2 + length a + length b + length c + length e ≤ length d
    → k ≡ 2 → l ≡ k + length a → m ≡ l + length b → n ≡ m + length c
    → over (over (over (over (over d 0 (170 ∷ 170 ∷ [])) k a) l b) m c) n e ≡ over d 0 ((170 ∷ 170 ∷ []) ++ a ++ b ++ c ++ e)
over_four d a b c e k l m n fits hk hl hm hn =
    let marks : List ℕ = 170 ∷ 170 ∷ [] in
    let la = length-append marks a in
    let lb = length-append (marks ++ a) b in
    let lc = length-append (marks ++ a ++ b) c in
    ap (λ (w : List ℕ). over (over (over w l b) m c) n e) (over_over d 0 marks a k (omega arith) (omega arith))
    ∙ ap (λ (w : List ℕ). over (over w m c) n e) (over_over d 0 (marks ++ a) b l (omega arith) (omega arith))
    ∙ ap (λ (w : List ℕ). over w n e) (over_over d 0 (marks ++ a ++ b) c m (omega arith) (omega arith))
    ∙ over_over d 0 (marks ++ a ++ b ++ c) e n (omega arith) (omega arith)
