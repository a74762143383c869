-- Phase ranges of 32 bits, as the code compares and casts them. Assumes nothing.
use mathlib.Core.Path.{◌≡◌, sym, ap}
use mathlib.Core.Bool.{true, false, true≢false}
use Prim.Native.Nat.{ℕ, ◌^◌, ◌<◌}
use native.Mathlib.Omega.{arith}
use native.Mathlib.Nat.{not-suc-le-zero}
use borrow.Author.Tests.{ltb-true}
use lib.IntN.{ℤ, pos, negsuc}
use lib.Signed.{mag, lt_z}
use mir.Syntax.{w32, w64}
use mir.Val.{SFits, to_z, of_z}
use mir.ValLaws.{to_z-of_z}
use Rattle.bits.specs.Signed.{fits_twos}

-- in 64 bits it is the same number
pub widen : (z : ℤ) → SFits w32 z → {y : ℤ} → y ≡ to_z w32 (of_z w32 z) → to_z w64 (of_z w64 y) ≡ z
widen z g e =
    let f : SFits w64 z = record { sfits = omega (arith, g.sfits) } in
    rw (e, to_z-of_z w32 z g) (to_z-of_z w64 z f)

-- the range of 20 bits, below zero and else
pub fits_below : (z : ℤ) → SFits w32 z → lt_z (to_z w32 (of_z w32 z)) (pos 0) ≡ true → lt_z (negsuc 0x80000) (to_z w32 (of_z w32 z)) ≡ fits_twos 20 z
fits_below (pos n) f e = absurd (not-suc-le-zero (ltb-true n 0 (rw (to_z-of_z w32 (pos n) f) at e)))
fits_below (negsuc n) f e = rw (to_z-of_z w32 (negsuc n) f)

pub fits_else : (z : ℤ) → SFits w32 z → lt_z (to_z w32 (of_z w32 z)) (pos 0) ≡ false → lt_z (to_z w32 (of_z w32 z)) (pos 0x80000) ≡ fits_twos 20 z
fits_else (pos n) f e = rw (to_z-of_z w32 (pos n) f)
fits_else (negsuc n) f e = absurd (true≢false (rw (to_z-of_z w32 (negsuc n) f) at e))

-- a phase range of 32 bits is handed on as it is
pub same_32 : (z : ℤ) → mag z < 2 ^ 31 → to_z w32 (of_z w32 z) ≡ z
same_32 z h = to_z-of_z w32 z (record { sfits = h })

pub fits_same : (w : ℕ) (z : ℤ) → mag z < 2 ^ 31 → fits_twos w z ≡ fits_twos w (to_z w32 (of_z w32 z))
fits_same w z h = ap (fits_twos w) (sym (same_32 z h))
