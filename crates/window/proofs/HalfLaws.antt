-- A number below 16 by cases, and a byte by its halves. Assumes nothing.
use mathlib.Core.Path.{◌≡◌, sym, ap, ap₂, ◌∙◌}
use Prim.Native.Nat.{ℕ, ◌+◌, ◌*◌, ◌/◌, ◌%◌, ◌^◌, ◌≤◌, ◌<◌}
use native.Mathlib.Nat.{mod-lt}
use native.Mathlib.Omega.{arith}
use lib.Pow.{pow_pos, split}
use lib.Bits.{bit_xor, xor_shifted}
use Rattle.bits.specs.Crc.{crc_byte}
use Rattle.bits.proofs.XorLaws.{xor_shl}
use Rattle.window.specs.Steps.{low}
use Rattle.window.proofs.MoveLaws.{moves, moves_linear, byte_alone}

step : (k n : ℕ) → n ≤ k → (k ≡ n → ⊥) → n + 1 ≤ k
step k n h f = omega arith

none : (k : ℕ) → 0 ≤ k
none k = omega arith

only : (k : ℕ) → k < 16 → 15 ≤ k → k ≡ 15
only k h l = omega arith

pub last : (k : ℕ) → k < 16 → (k ≡ 0 → ⊥) → (k ≡ 1 → ⊥) → (k ≡ 2 → ⊥) → (k ≡ 3 → ⊥) → (k ≡ 4 → ⊥) → (k ≡ 5 → ⊥) → (k ≡ 6 → ⊥) → (k ≡ 7 → ⊥) → (k ≡ 8 → ⊥) → (k ≡ 9 → ⊥) → (k ≡ 10 → ⊥) → (k ≡ 11 → ⊥) → (k ≡ 12 → ⊥) → (k ≡ 13 → ⊥) → (k ≡ 14 → ⊥) → k ≡ 15
last k h a0 a1 a2 a3 a4 a5 a6 a7 a8 a9 a10 a11 a12 a13 a14 = only k h (step k 14 (step k 13 (step k 12 (step k 11 (step k 10 (step k 9 (step k 8 (step k 7 (step k 6 (step k 5 (step k 4 (step k 3 (step k 2 (step k 1 (step k 0 (none k) a0) a1) a2) a3) a4) a5) a6) a7) a8) a9) a10) a11) a12) a13) a14)

-- a byte adds what its halves add
halves : (t : ℕ) → bit_xor (crc_byte 0 (t / 2 ^ 4 * 16)) (crc_byte 0 (t % 16)) ≡ crc_byte 0 t
halves t =
    let a = t / 2 ^ 4 * 16 in
    let b = t % 16 in
    ap₂ bit_xor (byte_alone a) (byte_alone b)
    ∙ sym (moves_linear 8 (a * 2 ^ 16) (b * 2 ^ 16))
    ∙ ap (moves 8) (sym (xor_shl a b 16) ∙ ap (λ (n : ℕ). n * 2 ^ 16) (xor_shifted (t / 2 ^ 4) 4 (t % 16) (mod-lt t (pow_pos 4)) ∙ split t 4))
    ∙ sym (byte_alone t)

-- the number of 32 bits x, by what its upper bits add
pub by_halves : (x a b : ℕ) → a ≡ crc_byte 0 (x / 2 ^ 28 * 16) → b ≡ crc_byte 0 (x / 2 ^ 24 % 16) → bit_xor (x % 2 ^ 24) (bit_xor a b) ≡ low x
unfolding low
by_halves x a b ea eb =
    let e : x / 2 ^ 28 ≡ x / 2 ^ 24 / 2 ^ 4 = omega arith in
    ap (bit_xor (x % 2 ^ 24)) (ap₂ bit_xor (ea ∙ ap (λ (n : ℕ). crc_byte 0 (n * 16)) e) eb ∙ halves (x / 2 ^ 24))
