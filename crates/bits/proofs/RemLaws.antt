-- Laws of the remainder of a number. Assumes nothing.
use mathlib.Core.Path.{◌≡◌, refl, sym, ap, ap₂, ◌∙◌, subst}
use Prim.Native.Nat.{ℕ, zero, suc, ◌+◌, ◌*◌, ◌/◌, ◌%◌, ◌^◌, ◌<◌}
use native.Mathlib.Nat.{mod-lt, zero-lt-suc, zero-add, add-zero, add-suc, suc-add, mul-one}
use lib.Arith.{lt-one}
use lib.Pow.{shr_lt}
use native.Mathlib.Omega.{arith}
use lib.Bits.{bit_xor, xor_shr, xor_mod, xor_zero_r, block_half, block_odd}
use Rattle.bits.proofs.XorLaws.{xor_swap, xor_times, xor_assoc, xor_shl}
use Rattle.bits.specs.Crc.{crc_bit, crc_bits, crc_byte}
use Rattle.bits.proofs.CrcLaws.{bit_linear, bits_linear}
use Rattle.bits.specs.FoldSteps.{rem}
use Rattle.bits.proofs.LinearLaws.{Linear, linear_zero, by_test}

half_lt : (y k : ℕ) → y < 2 ^ suc k → y / 2 < 2 ^ k
half_lt y k h =
    let e : suc k ≡ k + 1 = omega arith in
    shr_lt k 1 (subst (λ (i : ℕ). y < 2 ^ i) e h)

pub rem_linear : (w : ℕ) → Linear (rem w)
unfolding rem
rem_linear zero x y = refl
rem_linear (suc w) x y =
    ap₂ bit_xor
    (ap (λ (n : ℕ). crc_bit (rem w n)) (xor_shr x y 1) ∙ ap crc_bit (rem_linear w (x / 2) (y / 2)) ∙ bit_linear (rem w (x / 2)) (rem w (y / 2)))
    (ap (λ (n : ℕ). n * 0x864CFB) (xor_mod x y 1) ∙ xor_times 0x864CFB (x % 2) (y % 2) (mod-lt x (zero-lt-suc 1)) (mod-lt y (zero-lt-suc 1)))
    ∙ xor_swap (crc_bit (rem w (x / 2))) (crc_bit (rem w (y / 2))) (x % 2 * 0x864CFB) (y % 2 * 0x864CFB)

pub rem_zero : (w : ℕ) → rem w 0 ≡ 0
rem_zero w = linear_zero (rem w) (rem_linear w)

pub bits_add : (m n c : ℕ) → crc_bits (m + n) c ≡ crc_bits m (crc_bits n c)
unfolding crc_bits
bits_add zero n c = ap (λ (k : ℕ). crc_bits k c) (zero-add n)
bits_add (suc m) n c = ap (λ (k : ℕ). crc_bits k c) (suc-add m n) ∙ ap crc_bit (bits_add m n c)

-- w bits and k bits behind them
pub rem_split : (w k x y : ℕ) → y < 2 ^ k → rem (w + k) (x * 2 ^ k + y) ≡ bit_xor (crc_bits k (rem w x)) (rem k y)
unfolding rem crc_bits
rem_split w zero x y h =
    let e : y ≡ 0 = lt-one h in
    ap₂ rem (add-zero w) (ap₂ (λ (a b : ℕ). a + b) (mul-one x) e ∙ add-zero x) ∙ sym (xor_zero_r (rem w x))
rem_split w (suc k) x y h =
    ap (λ (n : ℕ). rem n (x * 2 ^ suc k + y)) (add-suc w k)
    ∙ ap₂ (λ (a b : ℕ). bit_xor (crc_bit (rem (w + k) a)) (b * 0x864CFB)) (block_half x k y) (block_odd x k y)
    ∙ ap (λ (n : ℕ). bit_xor (crc_bit n) (y % 2 * 0x864CFB)) (rem_split w k x (y / 2) (half_lt y k h))
    ∙ ap (λ (n : ℕ). bit_xor n (y % 2 * 0x864CFB)) (bit_linear (crc_bits k (rem w x)) (rem k (y / 2)))
    ∙ xor_assoc (crc_bit (crc_bits k (rem w x))) (crc_bit (rem k (y / 2))) (y % 2 * 0x864CFB)

-- eight bits are a byte
byte_linear : Linear (λ (b : ℕ). crc_byte 0 b)
unfolding crc_byte
byte_linear x y =
    ap (crc_bits 8) (xor_zero_r (bit_xor x y * 2 ^ 16) ∙ xor_shl x y 16 ∙ ap₂ bit_xor (sym (xor_zero_r (x * 2 ^ 16))) (sym (xor_zero_r (y * 2 ^ 16))))
    ∙ bits_linear 8 (bit_xor (x * 2 ^ 16) 0) (bit_xor (y * 2 ^ 16) 0)

pub rem_byte : (b : ℕ) → b < 256 → rem 8 b ≡ crc_byte 0 b
unfolding rem crc_byte crc_bits crc_bit
rem_byte = by_test (rem 8) (λ (b : ℕ). crc_byte 0 b) (rem_linear 8) byte_linear 8 tt
