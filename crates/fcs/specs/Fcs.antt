-- The 16-bit frame check sequence of RFC 1662: the register, bit by bit and byte by byte, the checksum, and what holds of them.
use Rattle.std.specs.Prelude.{◌≡◌, ℕ, zero, suc, ◌*◌, ◌/◌, ◌%◌, ◌<◌, List, [], ◌∷◌, fold, bit_xor}

-- 8408 (hex): the polynomial, lowest bit first
abbrev pub polynomial : ℕ
polynomial = 33800

-- FFFF: the register before the first byte, and what complements it
abbrev pub start : ℕ
start = 65535

-- one step: a shift to the right, and where the bit that falls out is 1, an exclusive or with the polynomial
abbrev pub bit : ℕ → ℕ
bit c = bit_xor (c / 2) (c % 2 * polynomial)

-- eight steps: the table's entry at each index
unfoldable pub eight : ℕ → ℕ
eight c = bit (bit (bit (bit (bit (bit (bit (bit c)))))))

-- the register after one byte more
unfoldable pub step_of : ℕ → ℕ → ℕ
step_of c b = eight (bit_xor c b)

-- the register after more bytes
unfoldable pub extended : ℕ → List ℕ → ℕ
extended c bytes = fold step_of c bytes

-- the register over a whole body
abbrev pub register_of : List ℕ → ℕ
register_of bytes = extended start bytes

-- the checksum of a register: its complement, the low byte first
abbrev pub check_bytes : ℕ → List ℕ
check_bytes c = bit_xor c start % 256 ∷ bit_xor c start / 256 ∷ []

abbrev pub check_of : List ℕ → List ℕ
check_of body = check_bytes (register_of body)

-- F0B8: what a body with its checksum leaves in the register
abbrev pub residue : ℕ
residue = 61624

-- RFC 1662's own way: the bits of a byte enter one after the other, the lowest first
abbrev pub serial : ℕ → ℕ → ℕ → ℕ
serial zero c b = c
serial (suc n) c b = serial n (bit (bit_xor c (b % 2))) (b / 2)

abbrev pub bitwise : ℕ → List ℕ → ℕ
bitwise c bytes = fold (serial 8) c bytes

-- Laws.

-- a byte at a time is a bit at a time
abbrev pub BitSerial : Type 0
BitSerial = (c b : ℕ) → b < 256 → step_of c b ≡ serial 8 c b

-- the register is linear: two registers and two bytes, joined by exclusive or, step as one
abbrev pub Linear : Type 0
Linear = (c d a b : ℕ) → step_of (bit_xor c d) (bit_xor a b) ≡ bit_xor (step_of c a) (step_of d b)

-- a body with its checksum leaves F0B8
abbrev pub LeavesResidue : Type 0
LeavesResidue = (c : ℕ) → extended c (check_bytes c) ≡ residue

-- and no other two bytes do
abbrev pub OnlyChecksum : Type 0
OnlyChecksum = (c low high : ℕ) → c < 65536 → low < 256 → high < 256 → extended c (low ∷ high ∷ []) ≡ residue → low ∷ high ∷ [] ≡ check_bytes c
