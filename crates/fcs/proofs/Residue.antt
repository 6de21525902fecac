-- The checksum of a register is the one pair of bytes that brings it to F0B8.
use Rattle.std.proofs.Common.{◌≡◌, ℕ, ◌/◌, ◌%◌, ◌<◌, Bool, true, false, T, eqb, leb, [], ◌∷◌, sym, refl, ap, ◌∙◌, subst, ap₂, mod-lt, div-add-mod', arith, eqb→eq, leb→le}
use native.Mathlib.Nat.{mod-mod}
use lib.Bits.{bit_xor, xor_shr, xor_mod, xor_self, xor_zero_r, xor_assoc, xor_lt}
use Rattle.fcs.specs.Fcs.{eight, step_of, extended, LeavesResidue, OnlyChecksum}
use Rattle.fcs.proofs.Table.{passes}
use Rattle.fcs.proofs.Linear.{eight_split, step_split, xor_swap, linear}
use Rattle.fcs.proofs.Extended.{eight_fits}

xor_cancel : (a b : ℕ) → bit_xor a (bit_xor a b) ≡ b
xor_cancel a b = sym (xor_assoc a a b) ∙ ap (λ (x : ℕ). bit_xor x b) (xor_self a)

xor_apart : (a b : ℕ) → bit_xor a b ≡ 0 → a ≡ b
xor_apart a b e = sym (xor_zero_r a) ∙ sym (ap (bit_xor a) e) ∙ xor_cancel a b

-- the complemented bytes bring the register to F0B8
pub leaves_residue : LeavesResidue
unfolding eight step_of extended
leaves_residue c =
    ap₂ step_of (step_split c (bit_xor c 65535 % 256) (mod-lt (bit_xor c 65535) (omega arith))
    ∙ ap (λ (x : ℕ). bit_xor (c / 256) (eight x)) low)
    (xor_shr c 65535 8)
    ∙ ap eight (xor_swap (c / 256) (eight 255) (c / 256) 255 ∙ ap (λ (x : ℕ). bit_xor x (bit_xor (eight 255) 255)) (xor_self (c / 256)))
  where
    low : bit_xor c (bit_xor c 65535 % 256) % 256 ≡ 255
    low =
        xor_mod c (bit_xor c 65535 % 256) 8
        ∙ ap (bit_xor (c % 256)) (mod-mod (bit_xor c 65535) 256 ∙ xor_mod c 65535 8)
        ∙ xor_cancel (c % 256) 255

either : Bool → Bool → Bool
either true b = true
either false b = b

tells : (a b : Bool) → T (either a b) → (T b → ⊥) → T a
unfolding either
tells true b t no-b = tt
tells false b t no-b = absurd (no-b t)

-- no byte but 0 comes to less than 256 by eight steps: one test of all the bytes
small_eight : (k : ℕ) → k < 256 → eight k < 256 → k ≡ 0
unfolding eight either
small_eight k h e =
    eqb→eq k 0 (tells (eqb k 0) (leb 256 (eight k)) (passes (λ (m : ℕ). either (eqb m 0) (leb 256 (eight m))) 256 tt k h) (λ t. omega (arith, e, leb→le 256 (eight k) t)))

eight_nought : eight 0 ≡ 0
unfolding eight
eight_nought = refl

-- and no register but 0 comes to 0
eight_zero : (z : ℕ) → z < 65536 → eight z ≡ 0 → z ≡ 0
eight_zero z h e =
    let high : z / 256 ≡ eight (z % 256) = xor_apart (z / 256) (eight (z % 256)) (sym (eight_split z) ∙ e) in
    let fits : z / 256 < 256 = omega arith in
    let low : z % 256 ≡ 0 = small_eight (z % 256) (mod-lt z (omega arith)) (subst (λ (x : ℕ). x < 256) high fits) in
    let none : z / 256 ≡ 0 = high ∙ ap eight low ∙ eight_nought in
    omega (arith, low, none, div-add-mod' z 256)

-- two bytes that leave the register 0 as it is are 0
no_change : (a b : ℕ) → a < 256 → b < 256 → step_of (step_of 0 a) b ≡ 0 → (a ≡ 0) × (b ≡ 0)
unfolding step_of
no_change a b ha hb e =
    let same : eight a ≡ b = xor_apart (eight a) b (eight_zero (bit_xor (eight a) b) (xor_lt 16 (eight a) b (eight_fits a (omega (arith, ha))) (omega (arith, hb))) e) in
    let none : a ≡ 0 = small_eight a ha (subst (λ (x : ℕ). x < 256) (sym same) hb) in
    (none, sym same ∙ ap eight none ∙ eight_nought)

-- two pairs of bytes that bring one register to one number are the same
pub same_pair : (c a b x y : ℕ) → a < 256 → b < 256 → x < 256 → y < 256 → step_of (step_of c a) b ≡ step_of (step_of c x) y → (a ≡ x) × (b ≡ y)
same_pair c a b x y ha hb hx hy e =
    let none : step_of (step_of 0 (bit_xor a x)) (bit_xor b y) ≡ 0 =
    ap (λ (z : ℕ). step_of (step_of z (bit_xor a x)) (bit_xor b y)) (sym (xor_self c))
    ∙ ap (λ (z : ℕ). step_of z (bit_xor b y)) (linear c c a x)
    ∙ linear (step_of c a) (step_of c x) b y
    ∙ ap (λ (z : ℕ). bit_xor z (step_of (step_of c x) y)) e
    ∙ xor_self (step_of (step_of c x) y) in
    let gone = no_change (bit_xor a x) (bit_xor b y) (xor_lt 8 a x ha hx) (xor_lt 8 b y hb hy) none in
    (xor_apart a x gone.0, xor_apart b y gone.1)

pub only_checksum : OnlyChecksum
unfolding extended
only_checksum c low high hc hl hh e =
    let check = bit_xor c 65535 in
    let fits : check < 65536 = xor_lt 16 c 65535 hc (omega arith) in
    let same = same_pair c low high (check % 256) (check / 256) hl hh (mod-lt check (omega arith)) (omega (arith, fits)) (e ∙ sym (leaves_residue c)) in
    ap₂ (λ (x y : ℕ). x ∷ y ∷ []) same.0 same.1
