-- Numbers of 16 bits, as the code has them: read out of a field or a list, compared, and cast from and to 64 bits. Assumes nothing.
use mathlib.Core.Path.{◌≡◌, sym, ap, ◌∙◌, refl}
use mathlib.Core.List.{List}
use mathlib.Core.Bool.{true, false, true≢false}
use Prim.Native.Nat.{ℕ, ◌-◌, ◌^◌, ◌≤◌, ◌<◌, suc}
use native.Mathlib.Omega.{arith}
use native.Mathlib.Nat.{not-suc-le-zero}
use borrow.Author.Tests.{ltb-true, lt-ltb, le-ltb}
use lib.IntN.{ℤ, pos, negsuc, ◌-ℤ◌}
use lib.Dec.{ltb}
use lib.Pow.{pow_mono}
use lib.Signed.{mag, lt_z}
use mir.Syntax.{w16, w64}
use mir.Val.{SFits, to_z, of_z}
use mir.ValLaws.{to_z_pos, to_z-of_z}
use Rattle.bits.specs.Told.{Accepted}
use Rattle.bits.specs.Field.{Reading, reading, read_twos, field}
use Rattle.bits.specs.Signed.{twos_of, fits_twos, twos_bits}
use Rattle.bits.proofs.FieldLaws.{field_lt}
use Rattle.bits.proofs.SignedCode.{minus_one}
use Rattle.bits.proofs.SignedLaws.{fits_twos_lem, twos_fits}
use Rattle.bits.proofs.ReadLaws.{read_tells}

twos_small : (s : List ℕ) (p w : ℕ) → w ≤ 16 → {z : ℤ} {q : ℕ} → read_twos s p w ≡ Accepted (reading z q) → mag z < 2 ^ 15
twos_small s p w h {z} {q} e =
    let t = read_tells (twos_of w) s p w e in
    let d : z ≡ twos_of w (field s p w) = ap (λ (r : Reading ℤ). r.value) t.is in
    let f = sym (fits_twos_lem w z) ∙ ap (fits_twos w) d ∙ twos_fits w t.low (field s p w) (field_lt s p w) in
    omega (arith, ltb-true (mag z) (2 ^ (w - 1)) f, pow_mono {i = w - 1} {j = 15} (omega arith))

-- the cast loses nothing
pub bias_narrow : (s : List ℕ) (p w : ℕ) → w ≤ 16 → {z : ℤ} {q : ℕ} → read_twos s p w ≡ Accepted (reading z q)
    → (SFits w16 (to_z w64 (of_z w64 z))) × (to_z w16 (of_z w16 (to_z w64 (of_z w64 z))) ≡ z)
bias_narrow s p w h {z} e =
    let m : mag z < 2 ^ 15 = twos_small s p w h e in
    let f : SFits w64 z = record { sfits = omega arith } in
    let g : SFits w16 z = record { sfits = m } in
    rw (to_z-of_z w64 z f) (g, to_z-of_z w16 z g)

-- a number out of a list is handed on as it is
pub same_16 : (z : ℤ) → mag z < 2 ^ 15 → to_z w16 (of_z w16 z) ≡ z
same_16 z h = to_z-of_z w16 z (record { sfits = h })

-- and so is a number of 14 bits
pub same_14 : (v : ℕ) → v < 2 ^ 14 → {z : ℤ} → z ≡ twos_of 14 v → to_z w16 (of_z w16 z) ≡ twos_of 14 v
same_14 v h {z} e =
    let f = sym (fits_twos_lem 14 z) ∙ ap (fits_twos 14) e ∙ twos_fits 14 (omega arith) v h in
    same_16 z (omega (arith, ltb-true (mag z) (2 ^ 13) f)) ∙ e

-- a number out of a list fits 16 bits
pub all_fit : (z : ℤ) → mag z < 2 ^ 15 → fits_twos 16 z ≡ true
all_fit (pos n) h = lt-ltb n (2 ^ 15) h
all_fit (negsuc n) h = lt-ltb n (2 ^ 15) h

-- `-1 - (n as i16)` fits, and is what it says
pub minus_one_16 : (n : ℕ) → n < 2 ^ 15 → (SFits w16 (negsuc 0 -ℤ to_z w16 n)) × (to_z w16 (of_z w16 (negsuc 0 -ℤ to_z w16 n)) ≡ negsuc n)
minus_one_16 n h =
    let f : SFits w16 (negsuc n) = record { sfits = h } in
    rw (to_z_pos w16 n h, minus_one n) (f, to_z-of_z w16 (negsuc n) f)

-- ---- the w bits of a number that fits them, below zero and else: each difference fits, and each cast is of a number from 0 on

up : (n : ℕ) → negsuc 0 -ℤ negsuc n ≡ pos n
up n = simp (le-ltb (suc n) 1 (omega arith)) (ap pos (omega arith))

module _ (w : ℕ) (h : w ≤ 16) where
  half : (n : ℕ) → ltb n (2 ^ (w - 1)) ≡ true → (n < 2 ^ (w - 1)) × (n < 2 ^ 15)
  half n g =
      let l : n < 2 ^ (w - 1) = ltb-true n (2 ^ (w - 1)) g in
      (l, omega (arith, pow_mono {i = w - 1} {j = 15} (omega arith)))

  pub bits_below : (z : ℤ) → SFits w16 z → fits_twos w z ≡ true → lt_z (to_z w16 (of_z w16 z)) (pos 0) ≡ true
      → (SFits w16 (negsuc 0 -ℤ to_z w16 (of_z w16 z))) × (to_z w16 (of_z w16 (negsuc 0 -ℤ to_z w16 (of_z w16 z))) ≡ pos (mag z)) × (mag z < 2 ^ (w - 1)) × (2 ^ w - 1 - mag z ≡ twos_bits w z)
  bits_below (pos n) f g e = absurd (not-suc-le-zero (ltb-true n 0 (rw (to_z-of_z w16 (pos n) f) at e)))
  bits_below (negsuc n) f g e =
      let l = half n g in
      let k : SFits w16 (pos n) = record { sfits = l.1 } in
      rw (to_z-of_z w16 (negsuc n) f, up n) (k, to_z-of_z w16 (pos n) k, l.0, omega arith)

  pub bits_else : (z : ℤ) → SFits w16 z → fits_twos w z ≡ true → lt_z (to_z w16 (of_z w16 z)) (pos 0) ≡ false
      → (to_z w16 (of_z w16 z) ≡ pos (mag z)) × (mag z < 2 ^ (w - 1)) × (mag z ≡ twos_bits w z)
  bits_else (pos n) f g e = (to_z-of_z w16 (pos n) f, (half n g).0, refl)
  bits_else (negsuc n) f g e = absurd (true≢false (rw (to_z-of_z w16 (negsuc n) f) at e))
