-- What the bytes after a code byte carry: a text ends at its 00, a count says the length.
use Rattle.std.proofs.Common.{◌≡◌, ℕ, suc, ◌+◌, ◌-◌, ◌<◌, ◌≤◌, List, [], ◌∷◌, ◌++◌, length, get_or, take, drop, sym, refl, ap, ◌∙◌, arith, length-append}
use Rattle.std.proofs.lemmas.List.{take_more, take_all, take_at, get_or_at, same_from_push, nil_from_length}
use Rattle.frame.specs.declared.form.Form.{Form}
use Rattle.frame.specs.declared.form.Form.TheVariants.{Bare, Text, Counted}
use Rattle.frame.specs.Frame.{Carries, carried}

length_pushed : (p : List ℕ) → length (p ++ 0 ∷ []) ≡ length p + 1
length_pushed p = length-append p (0 ∷ [])

-- a text with its 00: the last byte is 00, and the rest is the text
pub text_last : (rest p : List ℕ) → rest ≡ p ++ 0 ∷ [] → (0 < length rest) × (get_or rest (length rest - 1) 0 ≡ 0)
text_last rest p e =
    let l : length rest ≡ length p + 1 = ap length e ∙ length_pushed p in
    let i : length rest - 1 ≡ length p = omega arith in
    (omega arith, ap (λ (n : ℕ). get_or rest n 0) i ∙ ap (λ (r : List ℕ). get_or r (length p) 0) e ∙ get_or_at p 0 [] 0 (length p) refl)

pub text_front : (rest p : List ℕ) → rest ≡ p ++ 0 ∷ [] → take (length rest - 1) rest ≡ p
text_front rest p e =
    let l : length rest ≡ length p + 1 = ap length e ∙ length_pushed p in
    let i : length rest - 1 ≡ length p = omega arith in
    ap (λ (n : ℕ). take n rest) i ∙ ap (take (length p)) e ∙ take_at p (0 ∷ []) (length p) refl

pub text_split : (rest : List ℕ) → 0 < length rest → get_or rest (length rest - 1) 0 ≡ 0 → rest ≡ take (length rest - 1) rest ++ 0 ∷ []
text_split rest h z =
    let i : length rest - 1 + 1 ≡ length rest = omega arith in
    sym (take_all (length rest - 1 + 1) rest (omega arith))
    ∙ take_more rest (length rest - 1) 0 (omega arith)
    ∙ ap (λ (b : ℕ). take (length rest - 1) rest ++ b ∷ []) z

-- a counted payload: the first byte is its length less 1
pub counted_split : (rest : List ℕ) → 0 < length rest → length rest - 1 ≡ get_or rest 0 0 + 1 → rest ≡ (length (drop 1 rest) - 1) ∷ drop 1 rest
counted_split [] h e = absurd (omega arith)
counted_split (n ∷ p) h e = ap (λ (k : ℕ). k ∷ p) (omega arith)

pub counted_count : (rest p : List ℕ) → rest ≡ (length p - 1) ∷ p → 1 ≤ length p → length rest - 1 ≡ get_or rest 0 0 + 1
counted_count rest p e h =
    let l : length rest ≡ suc (length p) = ap length e in
    let g : get_or rest 0 0 ≡ length p - 1 = ap (λ (r : List ℕ). get_or r 0 0) e in
    omega arith

-- one payload at most
pub one_payload : (m : Form) (p q : List ℕ) → Carries m p → Carries m q → carried m p ≡ carried m q → p ≡ q
one_payload Bare p q h k e = nil_from_length p h ∙ sym (nil_from_length q k)
one_payload Text p q h k e = (same_from_push p q 0 0 e).0
one_payload Counted p q h k e = ap (drop 1) e
