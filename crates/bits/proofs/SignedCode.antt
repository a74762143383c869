-- Shifts of unsigned and casts, differences and tests of signed numbers, as 64-bit code has them. Assumes nothing.
use mathlib.Core.Path.{◌≡◌, refl, sym, ap, subst, ◌∙◌}
use mathlib.Core.Bool.{true, false, true≢false}
use lib.Dec.{T, eqb, ltb}
use native.Mathlib.Decide.{ℕ_discrete}
use Prim.Native.Nat.{ℕ, zero, suc, ◌+◌, ◌-◌, ◌*◌, ◌/◌, ◌%◌, ◌^◌, ◌≤◌, ◌<◌}
use native.Mathlib.Nat.{zero-add, zero-mul, one-mul, mod-lt, mod-eq_of_lt, le-div_iff_mul-le, not-suc-le-zero}
use native.Mathlib.Omega.{arith}
use borrow.Author.Tests.{lt-ltb, le-ltb, ltb-true, eq-eqb, ne_eqb}
use lib.IntN.{ℤ, pos, negsuc, nat_abs, neg_ℤ, ◌-ℤ◌}
use lib.Pow.{pow_pos, pow_mono, split}
use lib.Signed.{mag, lt_z, non_neg}
use mir.Syntax.{w64}
use mir.Val.{Fits, SFits, to_z, of_z}
use mir.ValLaws.{to_z_pos, to_z-of_z}
use Rattle.bits.proofs.SignedLaws.{half_twice}

-- ---- shifts

pub shr_zero : (v w : ℕ) → v / 2 ^ w ≡ 0 → v < 2 ^ w
shr_zero v w e = subst (λ (n : ℕ). n < 2 ^ w) (ap (λ (n : ℕ). n * 2 ^ w + v % 2 ^ w) (sym e) ∙ split v w) (rw (zero-mul, zero-add) (mod-lt v (pow_pos w)))

pub shr_some : (v w : ℕ) → (v / 2 ^ w ≡ 0 → ⊥) → 2 ^ w ≤ v
shr_some v w n =
    let h : 1 ≤ v / 2 ^ w = omega arith in
    rw one-mul at ((le-div_iff_mul-le (pow_pos w)).0 h)

-- Nothing is left of v shifted down exactly if it fits.
pub shr_tells : (v w : ℕ) → eqb (v / 2 ^ w) 0 ≡ ltb v (2 ^ w)
shr_tells v w = go (ℕ_discrete (v / 2 ^ w) 0)
  where
    go : Dec (v / 2 ^ w ≡ 0) → eqb (v / 2 ^ w) 0 ≡ ltb v (2 ^ w)
    go (yes e) = eq-eqb _ _ e ∙ sym (lt-ltb _ _ (shr_zero v w e))
    go (no n) = ne_eqb _ _ n ∙ sym (le-ltb _ _ (shr_some v w n))

-- the place value of a field's top bit
pub half_is : (w : ℕ) → 1 ≤ w → w ≤ 64
    → (1 * 2 ^ (w - 1) % 2 ^ 64 ≡ 2 ^ (w - 1)) × (1 * 2 ^ (w - 1) % 2 ^ 64 * 2 ≡ 2 ^ w)
    × (1 ≤ 1 * 2 ^ (w - 1) % 2 ^ 64) × (1 * 2 ^ (w - 1) % 2 ^ 64 ≤ 2 ^ 63)
half_is w h l =
    let m : 2 ^ (w - 1) ≤ 2 ^ 63 = pow_mono {j = 63} (omega arith) in
    let e : 1 * 2 ^ (w - 1) % 2 ^ 64 ≡ 2 ^ (w - 1) = rw one-mul (mod-eq_of_lt (omega arith)) in
    (e, rw e (half_twice w h), rw e (pow_pos (w - 1)), rw e m)

-- ---- differences

pub minus_one : (n : ℕ) → negsuc 0 -ℤ pos n ≡ negsuc n
minus_one zero = refl
minus_one (suc n) = ap (λ (k : ℕ). negsuc (suc k)) (zero-add n)

pub minus : (n : ℕ) → pos 0 -ℤ pos n ≡ neg_ℤ (pos n)
minus zero = refl
minus (suc n) = simp (lt-ltb 0 (suc n) (omega arith)) (ap negsuc (omega arith))

small : (z : ℤ) → mag z < 2 ^ 63 → (SFits w64 z) × (to_z w64 (of_z w64 z) ≡ z)
small z h = (record { sfits = h }, to_z-of_z w64 z (record { sfits = h }))

-- `-1 - (n as i64)`, and `0 - (n as i64)`: each fits, and is what it says
pub minus_one_cast : (n : ℕ) → n < 2 ^ 63
    → (SFits w64 (negsuc 0 -ℤ to_z w64 n)) × (to_z w64 (of_z w64 (negsuc 0 -ℤ to_z w64 n)) ≡ negsuc n)
minus_one_cast n h = rw (to_z_pos w64 n h, minus_one n) (small (negsuc n) h)

neg_small : (n : ℕ) → n < 2 ^ 63 → mag (neg_ℤ (pos n)) < 2 ^ 63
neg_small zero h = omega arith
neg_small (suc n) h = omega arith

pub minus_cast : (n : ℕ) → n < 2 ^ 63
    → (SFits w64 (pos 0 -ℤ to_z w64 n)) × (to_z w64 (of_z w64 (pos 0 -ℤ to_z w64 n)) ≡ neg_ℤ (pos n))
minus_cast n h = rw (to_z_pos w64 n h, minus n) (small (neg_ℤ (pos n)) (neg_small n h))

-- ---- a test on a signed number, and the cast of its magnitude

-- `z < 0` held, or failed
pub below_zero : (z : ℤ) → SFits w64 z → lt_z (to_z w64 (of_z w64 z)) (pos 0) ≡ true → (n : ℕ) × (z ≡ negsuc n) × (n < 2 ^ 63)
below_zero (pos n) f e = absurd (not-suc-le-zero (ltb-true n 0 (rw (to_z-of_z w64 (pos n) f) at e)))
below_zero (negsuc n) f e = (n, refl, f.sfits)

pub not_below_zero : (z : ℤ) → SFits w64 z → lt_z (to_z w64 (of_z w64 z)) (pos 0) ≡ false → (n : ℕ) × (z ≡ pos n) × (n < 2 ^ 63)
not_below_zero (pos n) f e = (n, refl, f.sfits)
not_below_zero (negsuc n) f e = absurd (true≢false (rw (to_z-of_z w64 (negsuc n) f) at e))

-- `(-1 - z) as u64` of a z below zero: the difference fits, the cast is allowed, and its value
up : (n : ℕ) → negsuc 0 -ℤ negsuc n ≡ pos n
up n = simp (le-ltb (suc n) 1 (omega arith)) (ap pos (omega arith))

pub neg_cast : (z : ℤ) → SFits w64 z → lt_z (to_z w64 (of_z w64 z)) (pos 0) ≡ true
    → (SFits w64 (negsuc 0 -ℤ to_z w64 (of_z w64 z)))
    × (to_z w64 (of_z w64 (negsuc 0 -ℤ to_z w64 (of_z w64 z))) ≡ pos (mag z))
neg_cast (pos n) f e = absurd (not-suc-le-zero (ltb-true n 0 (rw (to_z-of_z w64 (pos n) f) at e)))
neg_cast (negsuc n) f e = rw (to_z-of_z w64 (negsuc n) f, up n) (small (pos n) f.sfits)

pub pos_cast : (z : ℤ) → SFits w64 z → lt_z (to_z w64 (of_z w64 z)) (pos 0) ≡ false → to_z w64 (of_z w64 z) ≡ pos (mag z)
pos_cast (pos n) f e = to_z-of_z w64 (pos n) f
pos_cast (negsuc n) f e = absurd (true≢false (rw (to_z-of_z w64 (negsuc n) f) at e))

-- a cast to an unsigned number asks this
pub to_unsigned : (x : ℤ) (n : ℕ) → x ≡ pos n → n < 2 ^ 63 → (T (non_neg x)) × (Fits w64 (nat_abs x))
to_unsigned x n e h = rw e (tt, record { fits = omega arith })

pub mag_small : (z : ℤ) → SFits w64 z → mag z < 2 ^ 63
mag_small z f = f.sfits
