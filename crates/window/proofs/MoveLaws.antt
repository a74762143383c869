-- Reducing a number, and the steps of the checksum. Assumes nothing.
use mathlib.Core.Path.{◌≡◌, sym, ap, ap₂, ◌∙◌}
use Prim.Native.Nat.{ℕ, zero, suc, ◌+◌, ◌*◌, ◌/◌, ◌%◌, ◌^◌, ◌<◌}
use native.Mathlib.Nat.{zero-mul, one-mul, add_comm}
use native.Mathlib.Omega.{arith}
use lib.Bits.{bit_xor, xor_shr, xor_zero_r}
use Rattle.bits.specs.Crc.{crc_bits, crc_byte}
use Rattle.bits.proofs.CrcLaws.{bit_is, bits_none, bits_zero, bits_more, byte_is, bits_linear}
use Rattle.bits.proofs.XorLaws.{xor_shl}
use Rattle.bits.proofs.RemLaws.{bits_add}
use Rattle.bits.proofs.LinearLaws.{Linear, linear_zero, by_test, mod_linear, xor_linear}
use Rattle.window.specs.Steps.{low}

-- ---- the steps of the checksum, so that they can be computed

-- one bit, and n bits, as `crc_bit` and `crc_bits` are defined
unfoldable pub move : ℕ → ℕ
move c = bit_xor (c / 2 ^ 23 % 2 * 0x864CFB) (c * 2 % 2 ^ 24)

unfoldable pub moves : ℕ → ℕ → ℕ
moves zero c = c
moves (suc n) c = move (moves n c)

pub moves_are : (n c : ℕ) → moves n c ≡ crc_bits n c
unfolding moves move
moves_are zero c = sym (bits_none c)
moves_are (suc n) c = ap move (moves_are n c) ∙ sym (bit_is (crc_bits n c)) ∙ sym (bits_more n c)

pub moves_linear : (n : ℕ) → Linear (moves n)
moves_linear n x y = moves_are n (bit_xor x y) ∙ bits_linear n x y ∙ ap₂ bit_xor (sym (moves_are n x)) (sym (moves_are n y))

-- ---- a number reduced

-- what a byte adds to a sum of 0
pub byte_alone : (b : ℕ) → crc_byte 0 b ≡ moves 8 (b * 2 ^ 16)
byte_alone b = byte_is 0 b ∙ ap (crc_bits 8) (xor_zero_r (b * 2 ^ 16)) ∙ sym (moves_are 8 (b * 2 ^ 16))

lower : ℕ → ℕ
lower x = bit_xor (x % 2 ^ 24) (moves 8 (x / 2 ^ 24 * 2 ^ 16))

low_is : (x : ℕ) → low x ≡ lower x
unfolding low lower
low_is x = ap (bit_xor (x % 2 ^ 24)) (byte_alone (x / 2 ^ 24))

lower_linear : Linear lower
unfolding lower
lower_linear =
    xor_linear (λ (x : ℕ). x % 2 ^ 24) (λ (x : ℕ). moves 8 (x / 2 ^ 24 * 2 ^ 16)) (mod_linear 24)
    (λ x y. ap (λ (n : ℕ). moves 8 (n * 2 ^ 16)) (xor_shr x y 24) ∙ ap (moves 8) (xor_shl (x / 2 ^ 24) (y / 2 ^ 24) 16) ∙ moves_linear 8 (x / 2 ^ 24 * 2 ^ 16) (y / 2 ^ 24 * 2 ^ 16))

pub low_linear : Linear low
low_linear x y = low_is (bit_xor x y) ∙ lower_linear x y ∙ ap₂ bit_xor (sym (low_is x)) (sym (low_is y))

double : (x : ℕ) → x < 2 ^ 31 → lower (x * 2 ^ 1) ≡ moves 1 (lower x)
unfolding lower moves move
double =
    by_test (λ (x : ℕ). lower (x * 2 ^ 1)) (λ (x : ℕ). moves 1 (lower x))
    (λ x y. ap lower (xor_shl x y 1) ∙ lower_linear (x * 2 ^ 1) (y * 2 ^ 1))
    (λ x y. ap (moves 1) (lower_linear x y) ∙ moves_linear 1 (lower x) (lower y)) 31 tt

-- ---- a number moved up is moved on

low_zero : low 0 ≡ 0
low_zero = low_is 0 ∙ computed
  where
    computed : lower 0 ≡ 0
    computed = linear_zero lower lower_linear

pub moved_0 : (w : ℕ) → w < 2 ^ 24 → low w ≡ crc_bits 0 w
unfolding low
moved_0 w h =
    let a : w % 2 ^ 24 ≡ w = omega arith in
    let b : w / 2 ^ 24 ≡ 0 = omega arith in
    ap₂ (λ (m n : ℕ). bit_xor m (crc_byte 0 n)) a b
    ∙ ap (bit_xor w) (byte_alone 0 ∙ ap (moves 8) (zero-mul (2 ^ 16)) ∙ linear_zero (moves 8) (moves_linear 8))
    ∙ xor_zero_r w
    ∙ sym (bits_none w)

-- one bit more
onward : (t w x y : ℕ) → x < 2 ^ 31 → y ≡ x * 2 ^ 1 → low x ≡ crc_bits t w → low y ≡ crc_bits (1 + t) w
onward t w x y h e f =
    ap low e ∙ low_is (x * 2 ^ 1) ∙ double x h ∙ moves_are 1 (lower x) ∙ ap (crc_bits 1) (sym (low_is x) ∙ f) ∙ sym (bits_add 1 t w)

module _ (w : ℕ) (h : w < 2 ^ 24) where
  pub moved_1 : low (w * 2 ^ 1 % 2 ^ 32) ≡ crc_bits 1 w
  moved_1 = onward 0 w w (w * 2 ^ 1 % 2 ^ 32) (omega arith) (omega arith) (moved_0 w h)

  pub moved_2 : low (w * 2 ^ 2 % 2 ^ 32) ≡ crc_bits 2 w
  moved_2 = onward 1 w (w * 2 ^ 1 % 2 ^ 32) (w * 2 ^ 2 % 2 ^ 32) (omega arith) (omega arith) moved_1

  pub moved_3 : low (w * 2 ^ 3 % 2 ^ 32) ≡ crc_bits 3 w
  moved_3 = onward 2 w (w * 2 ^ 2 % 2 ^ 32) (w * 2 ^ 3 % 2 ^ 32) (omega arith) (omega arith) moved_2

  pub moved_4 : low (w * 2 ^ 4 % 2 ^ 32) ≡ crc_bits 4 w
  moved_4 = onward 3 w (w * 2 ^ 3 % 2 ^ 32) (w * 2 ^ 4 % 2 ^ 32) (omega arith) (omega arith) moved_3

  pub moved_5 : low (w * 2 ^ 5 % 2 ^ 32) ≡ crc_bits 5 w
  moved_5 = onward 4 w (w * 2 ^ 4 % 2 ^ 32) (w * 2 ^ 5 % 2 ^ 32) (omega arith) (omega arith) moved_4

  pub moved_6 : low (w * 2 ^ 6 % 2 ^ 32) ≡ crc_bits 6 w
  moved_6 = onward 5 w (w * 2 ^ 5 % 2 ^ 32) (w * 2 ^ 6 % 2 ^ 32) (omega arith) (omega arith) moved_5

  pub moved_7 : low (w * 2 ^ 7 % 2 ^ 32) ≡ crc_bits 7 w
  moved_7 = onward 6 w (w * 2 ^ 6 % 2 ^ 32) (w * 2 ^ 7 % 2 ^ 32) (omega arith) (omega arith) moved_6

  pub moved_8 : low (w * 2 ^ 8 % 2 ^ 32) ≡ crc_bits 8 w
  moved_8 = onward 7 w (w * 2 ^ 7 % 2 ^ 32) (w * 2 ^ 8 % 2 ^ 32) (omega arith) (omega arith) moved_7

-- nothing, or the number, by a bit
pub by_bit : (m t a v w x : ℕ) → a < 2 → low v ≡ crc_bits t w → w ≡ crc_bits m x → low (a * v) ≡ crc_bits m (a * moves t x)
by_bit m t zero v w x h e f = ap low (zero-mul v) ∙ low_zero ∙ sym (ap (crc_bits m) (zero-mul (moves t x)) ∙ bits_zero m)
by_bit m t (suc zero) v w x h e f =
    ap low (one-mul v) ∙ e ∙ ap (crc_bits t) f
    ∙ sym (bits_add t m x)
    ∙ ap (λ (k : ℕ). crc_bits k x) (add_comm t m)
    ∙ bits_add m t x
    ∙ ap (crc_bits m) (sym (moves_are t x) ∙ sym (one-mul (moves t x)))
by_bit m t (suc (suc a)) v w x h e f = absurd (omega arith)
