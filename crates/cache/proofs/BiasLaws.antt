-- A bias in 32 bits of two's complement: it fits where it fits 14 bits as a field does, and its 16 low bits tell it. Assumes nothing.
use mathlib.Core.Path.{◌≡◌, refl, sym, ap, ◌∙◌}
use mathlib.Core.Bool.{Bool, true, false}
use Prim.Native.Nat.{ℕ, ◌+◌, ◌-◌, ◌%◌, ◌^◌, ◌≤◌, ◌<◌}
use native.Mathlib.Omega.{arith}
use lib.Dec.{ltb}
use borrow.Author.Tests.{ltb-true, ltb-false, lt-ltb, le-ltb}
use Rattle.bits.specs.Signed.{twos_of, fits_twos}
use Rattle.bits.proofs.SignedLaws.{twos_low, twos_high}
use Rattle.cache.specs.Cache.{value, fits_value, widened}
use Rattle.cache.proofs.CodeLaws.{small_bias, large_bias, stays, rises}

-- the last 8,192 numbers of 32 bits are those from -8,192 to -1
top : (b : ℕ) → b < 2 ^ 32 → ltb 4294959103 b ≡ ltb (2147483648 - 1 + 2147483648 - b) (2 ^ 13)
top b u = go (ltb 4294959103 b) refl
  where
    go : (x : Bool) → ltb 4294959103 b ≡ x → ltb 4294959103 b ≡ ltb (2147483648 - 1 + 2147483648 - b) (2 ^ 13)
    go true p =
        let l : 4294959103 < b = ltb-true 4294959103 b p in
        let m : 2147483648 - 1 + 2147483648 - b < 2 ^ 13 = omega arith in
        p ∙ sym (lt-ltb (2147483648 - 1 + 2147483648 - b) (2 ^ 13) m)
    go false p =
        let l : b ≤ 4294959103 = ltb-false 4294959103 b p in
        let m : 2 ^ 13 ≤ 2147483648 - 1 + 2147483648 - b = omega arith in
        p ∙ sym (le-ltb (2147483648 - 1 + 2147483648 - b) (2 ^ 13) m)

-- the range of a bias is that of a field of 14 bits in two's complement
pub bias_fits : (i b : ℕ) → i ≤ 15 → b < 2 ^ 32 → fits_value (value i b) ≡ fits_twos 14 (twos_of 32 b)
bias_fits i b h u = go (ltb b 8192) refl (ltb b 2147483648) refl
  where
    go : (x : Bool) → ltb b 8192 ≡ x → (y : Bool) → ltb b 2147483648 ≡ y → fits_value (value i b) ≡ fits_twos 14 (twos_of 32 b)
    go true p y q =
        let l : b < 8192 = ltb-true b 8192 p in
        let m : b < 2 ^ (32 - 1) = omega arith in
        sym (small_bias i b h l) ∙ sym (lt-ltb b (2 ^ (14 - 1)) l) ∙ ap (fits_twos 14) (twos_low 32 b m)
    go false p true q =
        let l : 8192 ≤ b = ltb-false b 8192 p in
        let n : b < 2147483648 = ltb-true b 2147483648 q in
        let m : b < 2 ^ (32 - 1) = omega arith in
        let k : b ≤ 4294959103 = omega arith in
        sym (large_bias i b h l u) ∙ le-ltb 4294959103 b k ∙ sym (le-ltb b (2 ^ (14 - 1)) l) ∙ ap (fits_twos 14) (twos_low 32 b m)
    go false p false q =
        let l : 8192 ≤ b = ltb-false b 8192 p in
        let n : 2147483648 ≤ b = ltb-false b 2147483648 q in
        sym (large_bias i b h l u) ∙ top b u ∙ ap (fits_twos 14) (twos_high 32 b 2147483648 refl refl n u)

-- 16 bits that were widened are the low bits again
pub narrowed : (x : ℕ) → x < 2 ^ 16 → widened x % 2 ^ 16 ≡ x
narrowed x h = go (ltb x 32768) refl
  where
    go : (y : Bool) → ltb x 32768 ≡ y → widened x % 2 ^ 16 ≡ x
    go true p = ap (λ (n : ℕ). n % 2 ^ 16) (sym (stays x (ltb-true x 32768 p))) ∙ omega arith
    go false p = ap (λ (n : ℕ). n % 2 ^ 16) (sym (rises x (ltb-false x 32768 p))) ∙ omega arith
