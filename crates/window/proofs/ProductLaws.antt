-- A byte times a weight, reduced, is what the byte adds to the checksum of its tail. Assumes nothing.
use mathlib.Core.Path.{◌≡◌, sym, ap, ap₂, ◌∙◌}
use Prim.Native.Nat.{ℕ, zero, suc, ◌*◌, ◌/◌, ◌%◌, ◌^◌, ◌<◌}
use native.Mathlib.Nat.{mod-lt, zero-lt-suc, zero-mul, one-mul}
use native.Mathlib.Omega.{arith}
use lib.Bits.{bit_xor, xor_shr, xor_mod}
use Rattle.bits.specs.Crc.{crc_bits, crc_byte}
use Rattle.bits.proofs.CrcLaws.{bits_linear}
use Rattle.bits.proofs.XorLaws.{xor_times, xor_shl}
use Rattle.bits.proofs.LinearLaws.{Linear, by_test, xor_linear}
use Rattle.window.specs.Steps.{times, low}
use Rattle.window.proofs.MoveLaws.{move, moves, moves_linear, byte_alone, low_linear, moved_0, moved_1, moved_2, moved_3, moved_4, moved_5, moved_6, moved_7, by_bit}

-- a bit times a number fits where the number fits
pub bit_fits : (a x : ℕ) → a < 2 → x < 2 ^ 32 → a * x < 2 ^ 32
bit_fits zero x h l = rw (zero-mul x) (omega arith)
bit_fits (suc zero) x h l = rw (one-mul x) l
bit_fits (suc (suc a)) x h l = absurd (omega arith)

odd : (n : ℕ) → n % 2 < 2
odd n = mod-lt n (zero-lt-suc 1)

-- ---- what the bits of a byte add

-- the weight of the last byte, moved on by the place of each bit up to bit t that is set
spread : ℕ → ℕ → ℕ
spread zero b = b % 2 * moves 0 0x864CFB
spread (suc t) b = bit_xor (spread t b) (b / 2 ^ suc t % 2 * moves (suc t) 0x864CFB)

low_bit : (v : ℕ) → Linear (λ (b : ℕ). b % 2 * v)
low_bit v x y = ap (λ (k : ℕ). k * v) (xor_mod x y 1) ∙ xor_times v (x % 2) (y % 2) (odd x) (odd y)

one_bit : (t v : ℕ) → Linear (λ (b : ℕ). b / 2 ^ t % 2 * v)
one_bit t v x y = ap (λ (k : ℕ). k % 2 * v) (xor_shr x y t) ∙ low_bit v (x / 2 ^ t) (y / 2 ^ t)

spread_linear : (t : ℕ) → Linear (spread t)
unfolding spread
spread_linear zero = low_bit (moves 0 0x864CFB)
spread_linear (suc t) =
    xor_linear (spread t) (λ (b : ℕ). b / 2 ^ suc t % 2 * moves (suc t) 0x864CFB) (spread_linear t) (one_bit (suc t) (moves (suc t) 0x864CFB))

spread_byte : (b : ℕ) → b < 2 ^ 8 → spread 7 b ≡ moves 8 (b * 2 ^ 16)
unfolding spread moves move
spread_byte =
    by_test (spread 7) (λ (b : ℕ). moves 8 (b * 2 ^ 16)) (spread_linear 7)
    (λ x y. ap (moves 8) (xor_shl x y 16) ∙ moves_linear 8 (x * 2 ^ 16) (y * 2 ^ 16)) 8 tt

-- ---- the product

join : (m a t p q : ℕ) → low a ≡ crc_bits m p → low t ≡ crc_bits m q → low (bit_xor a t) ≡ crc_bits m (bit_xor p q)
join m a t p q e f = low_linear a t ∙ ap₂ bit_xor e f ∙ sym (bits_linear m p q)

module _ (b w m : ℕ) (hw : w < 2 ^ 24) (e : w ≡ crc_bits m 0x864CFB) where
  bits_spread : low (times b w) ≡ crc_bits m (spread 7 b)
  unfolding times spread
  bits_spread =
      join m _ _ _ _
      (join m _ _ _ _
      (join m _ _ _ _
      (join m _ _ _ _
      (join m _ _ _ _
      (join m _ _ _ _
      (join m _ _ _ _ (by_bit m 0 (b % 2) w w 0x864CFB (odd b) (moved_0 w hw) e)
      (by_bit m 1 (b / 2 ^ 1 % 2) (w * 2 ^ 1 % 2 ^ 32) w 0x864CFB (odd (b / 2 ^ 1)) (moved_1 w hw) e))
      (by_bit m 2 (b / 2 ^ 2 % 2) (w * 2 ^ 2 % 2 ^ 32) w 0x864CFB (odd (b / 2 ^ 2)) (moved_2 w hw) e))
      (by_bit m 3 (b / 2 ^ 3 % 2) (w * 2 ^ 3 % 2 ^ 32) w 0x864CFB (odd (b / 2 ^ 3)) (moved_3 w hw) e))
      (by_bit m 4 (b / 2 ^ 4 % 2) (w * 2 ^ 4 % 2 ^ 32) w 0x864CFB (odd (b / 2 ^ 4)) (moved_4 w hw) e))
      (by_bit m 5 (b / 2 ^ 5 % 2) (w * 2 ^ 5 % 2 ^ 32) w 0x864CFB (odd (b / 2 ^ 5)) (moved_5 w hw) e))
      (by_bit m 6 (b / 2 ^ 6 % 2) (w * 2 ^ 6 % 2 ^ 32) w 0x864CFB (odd (b / 2 ^ 6)) (moved_6 w hw) e))
      (by_bit m 7 (b / 2 ^ 7 % 2) (w * 2 ^ 7 % 2 ^ 32) w 0x864CFB (odd (b / 2 ^ 7)) (moved_7 w hw) e)

  -- a byte times a weight that is moved on by m bits
  pub product : b < 2 ^ 8 → low (times b w) ≡ crc_bits m (crc_byte 0 b)
  product h = bits_spread ∙ ap (crc_bits m) (spread_byte b h ∙ sym (byte_alone b))
