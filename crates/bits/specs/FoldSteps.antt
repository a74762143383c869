-- What the folding of words of eight bytes computes. No promise to a caller rests on this file. Assumes nothing.
use Rattle.std.specs.Prelude.{List, [], ◌∷◌, ℕ, zero, suc, ◌*◌, ◌/◌, ◌%◌, ◌^◌}
use Rattle.std.specs.Int.Bits.{bit_xor}
use Rattle.bits.specs.Crc.{crc_bit, crc_bits}

-- the checksum of the low w bits of a number, highest first
unfoldable pub rem : ℕ → ℕ → ℕ
rem zero x = 0
rem (suc w) x = bit_xor (crc_bit (rem w (x / 2))) (x % 2 * 0x864CFB)

-- ---- shifts

-- a number moved down by k bits, and up by k bits within a word of 64
abbrev pub down : ℕ → ℕ → ℕ
down k x = x / 2 ^ k

abbrev pub up : ℕ → ℕ → ℕ
up k x = x * 2 ^ k % 2 ^ 64

-- the exclusive-or of what a function gives and of its moves by each distance of a list
abbrev pub over : (ℕ → ℕ → ℕ) → (ℕ → ℕ) → List ℕ → ℕ → ℕ
over m f [] x = f x
over m f (k ∷ ks) x = over m (λ y. bit_xor (f y) (m k y)) ks x

abbrev pub downs : ℕ → List ℕ → ℕ → ℕ
downs k ks x = over down (down k) ks x

abbrev pub ups : ℕ → List ℕ → ℕ → ℕ
ups k ks x = over up (up k) ks x

-- ---- folds: what a word comes to in words behind it

-- into the words two and three behind it: 1 is x^-138 + x^-142 + x^-158 + x^-170 + x^-192 modulo the polynomial
unfoldable pub near : ℕ → ℕ
near u = downs 10 (14 ∷ 30 ∷ 42 ∷ []) u

unfoldable pub far : ℕ → ℕ
far u = bit_xor (ups 54 (50 ∷ 34 ∷ 22 ∷ []) u) u

-- into the words one and two behind it: 1 is x^-69 + x^-71 + x^-79 + x^-85 + x^-96
unfoldable pub nearer : ℕ → ℕ
nearer u = downs 5 (7 ∷ 15 ∷ 21 ∷ 32 ∷ []) u

unfoldable pub farther : ℕ → ℕ
farther u = ups 59 (57 ∷ 49 ∷ 43 ∷ 32 ∷ []) u

-- into the next word alone: its upper half by the same, its lower half by
-- 1 = x^-34 + x^-37 + x^-39 + x^-40 + x^-41 + x^-47 + x^-50 + x^-52 + x^-59
unfoldable pub upper : ℕ → ℕ
upper h = bit_xor (ups 27 (25 ∷ 17 ∷ 11 ∷ []) h) h

unfoldable pub lower : ℕ → ℕ
lower l = ups 30 (27 ∷ 25 ∷ 24 ∷ 23 ∷ 17 ∷ 14 ∷ 12 ∷ 5 ∷ []) l

unfoldable pub next : ℕ → ℕ
next u = bit_xor (upper (u / 2 ^ 32)) (lower (u % 2 ^ 32))

-- ---- the last word: 64 bits with 24 zeros behind them come down to 60 bits, and these are divided by the polynomial

-- x^60 = x^32 + x^28 + x^23 + x^19 + x^9 + x^5 + x
unfoldable pub sixty : ℕ → ℕ
sixty w = bit_xor (w * 2 ^ 28 % 2 ^ 64 / 2 ^ 4) (ups 32 (28 ∷ 23 ∷ 19 ∷ 9 ∷ 5 ∷ 1 ∷ []) (w / 2 ^ 36))

-- the quotient, of the 36 bits that have 24 behind them
unfoldable pub quotient : ℕ → ℕ
quotient h = over down (λ x. x) (1 ∷ 2 ∷ 3 ∷ 4 ∷ 5 ∷ 10 ∷ 14 ∷ 16 ∷ 17 ∷ 18 ∷ 19 ∷ 20 ∷ 21 ∷ 22 ∷ 23 ∷ 27 ∷ 30 ∷ 33 ∷ 36 ∷ []) h

-- the polynomial without its leading 1, of which x + 1 is a factor in six places, times the quotient
unfoldable pub paired : ℕ → ℕ
paired u = bit_xor (ups 23 (17 ∷ 10 ∷ 6 ∷ 4 ∷ []) u) u

unfoldable pub product : ℕ → ℕ
product q = bit_xor (bit_xor (paired (bit_xor q (up 1 q))) (up 14 q)) (up 3 q)

-- three words, one behind the other
unfoldable pub three : ℕ → ℕ → ℕ → ℕ
three a b c = bit_xor (crc_bits 128 (rem 64 a)) (bit_xor (crc_bits 64 (rem 64 b)) (rem 64 c))
