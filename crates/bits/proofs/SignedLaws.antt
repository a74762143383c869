-- Laws of the signed readings: each range is what its reading reaches, and bits and number undo each other. Assumes nothing.
use mathlib.Core.Path.{◌≡◌, refl, sym, ap, ap₂, ◌∙◌}
use mathlib.Core.Bool.{true}
use Prim.Native.Nat.{ℕ, zero, suc, ◌+◌, ◌-◌, ◌*◌, ◌^◌, ◌≤◌, ◌<◌}
use native.Mathlib.Nat.{pow-suc}
use native.Mathlib.Decide.{dec_lt}
use native.Mathlib.Omega.{arith}
use lib.Dec.{ltb}
use lib.IntN.{ℤ, pos, negsuc, neg_ℤ}
use lib.Pow.{pow_pos}
use lib.Signed.{mag}
use borrow.Author.Tests.{lt-ltb, le-ltb, ltb-true}
use Rattle.bits.specs.Signed.{twos_of, signmag_of, fits_twos, fits_signmag, twos_bits, signmag_bits}

-- twice the place value of the top bit
pub half_twice : (w : ℕ) → 1 ≤ w → 2 ^ (w - 1) * 2 ≡ 2 ^ w
half_twice w h =
    let e : suc (w - 1) ≡ w = omega arith in
    sym (pow-suc 2 (w - 1)) ∙ ap (λ (n : ℕ). 2 ^ n) e

-- ---- two's complement

pub twos_low : (w v : ℕ) → v < 2 ^ (w - 1) → pos v ≡ twos_of w v
unfolding twos_of
twos_low w v h = simp (lt-ltb _ _ h)

pub twos_high : (w v h : ℕ) → h ≡ 2 ^ (w - 1) → h * 2 ≡ 2 ^ w → h ≤ v → v < 2 ^ w → negsuc (h - 1 + h - v) ≡ twos_of w v
unfolding twos_of
twos_high w v h e d l k =
    let le : 2 ^ (w - 1) ≤ v = omega arith in
    simp (le-ltb _ _ le, lt-ltb _ _ k) (ap negsuc (omega arith))

-- the range is one bound on the magnitude
pub fits_twos_lem : (w : ℕ) (z : ℤ) → fits_twos w z ≡ ltb (mag z) (2 ^ (w - 1))
fits_twos_lem w (pos n) = refl
fits_twos_lem w (negsuc n) = refl

module _ (w : ℕ) (one : 1 ≤ w) where
  -- the bits of a number that fits are w bits
  pub twos_bits_lt : (z : ℤ) → fits_twos w z ≡ true → twos_bits w z < 2 ^ w
  twos_bits_lt (pos n) f = omega (arith, ltb-true n (2 ^ (w - 1)) f, half_twice w one)
  twos_bits_lt (negsuc n) f = omega (arith, ltb-true n (2 ^ (w - 1)) f, half_twice w one)

  -- what is written is read back
  pub twos_back : (z : ℤ) → fits_twos w z ≡ true → twos_of w (twos_bits w z) ≡ z
  twos_back (pos n) f = sym (twos_low w n (ltb-true n (2 ^ (w - 1)) f))
  twos_back (negsuc n) f =
      let l : n < 2 ^ (w - 1) = ltb-true n (2 ^ (w - 1)) f in
      let d : 2 ^ (w - 1) * 2 ≡ 2 ^ w = half_twice w one in
      sym (twos_high w (2 ^ w - suc n) (2 ^ (w - 1)) refl d (omega arith) (omega arith)) ∙ ap negsuc (omega arith)

  -- what is read fits
  pub twos_fits : (v : ℕ) → v < 2 ^ w → fits_twos w (twos_of w v) ≡ true
  twos_fits v h = go (dec_lt v (2 ^ (w - 1)))
    where
      go : Dec (v < 2 ^ (w - 1)) → fits_twos w (twos_of w v) ≡ true
      go (yes l) = rw (← twos_low w v l) (lt-ltb v (2 ^ (w - 1)) l)
      go (no l) =
          let d = half_twice w one in
          rw (← twos_high w v (2 ^ (w - 1)) refl d (omega arith) h)
          (lt-ltb (2 ^ (w - 1) - 1 + 2 ^ (w - 1) - v) (2 ^ (w - 1)) (omega (arith, pow_pos (w - 1))))

  -- and its bits are those that were read
  pub twos_again : (v : ℕ) → v < 2 ^ w → twos_bits w (twos_of w v) ≡ v
  twos_again v h = go (dec_lt v (2 ^ (w - 1)))
    where
      go : Dec (v < 2 ^ (w - 1)) → twos_bits w (twos_of w v) ≡ v
      go (yes l) = rw (← twos_low w v l)
      go (no l) = let d = half_twice w one in rw (← twos_high w v (2 ^ (w - 1)) refl d (omega arith) h) (omega arith)

-- ---- sign and magnitude

pub signmag_low : (w v : ℕ) → v < 2 ^ (w - 1) → pos v ≡ signmag_of w v
unfolding signmag_of
signmag_low w v h = simp (lt-ltb _ _ h)

pub signmag_high : (w v h : ℕ) → h ≡ 2 ^ (w - 1) → h ≤ v → neg_ℤ (pos (v - h)) ≡ signmag_of w v
unfolding signmag_of
signmag_high w v h e l =
    let le : 2 ^ (w - 1) ≤ v = omega arith in
    rw e (simp (le-ltb _ _ le))

-- minus zero reads as zero
pub minus_zero : (w : ℕ) → signmag_of w (2 ^ (w - 1)) ≡ pos 0
minus_zero w =
    let e : 2 ^ (w - 1) - 2 ^ (w - 1) ≡ 0 = omega arith in
    sym (signmag_high w (2 ^ (w - 1)) (2 ^ (w - 1)) refl (omega arith)) ∙ ap (λ (n : ℕ). neg_ℤ (pos n)) e

module _ (w : ℕ) (one : 1 ≤ w) where
  pub signmag_bits_lt : (z : ℤ) → fits_signmag w z ≡ true → signmag_bits w z < 2 ^ w
  signmag_bits_lt (pos n) f = omega (arith, ltb-true n (2 ^ (w - 1)) f, half_twice w one)
  signmag_bits_lt (negsuc n) f = omega (arith, ltb-true (suc n) (2 ^ (w - 1)) f, half_twice w one)

  pub signmag_back : (z : ℤ) → fits_signmag w z ≡ true → signmag_of w (signmag_bits w z) ≡ z
  signmag_back (pos n) f = sym (signmag_low w n (ltb-true n (2 ^ (w - 1)) f))
  signmag_back (negsuc n) f =
      let e : 2 ^ (w - 1) + suc n - 2 ^ (w - 1) ≡ suc n = omega arith in
      sym (signmag_high w (2 ^ (w - 1) + suc n) (2 ^ (w - 1)) refl (omega arith)) ∙ ap (λ (k : ℕ). neg_ℤ (pos k)) e

  -- a number below zero, by its magnitude
  below : (k : ℕ) → k < 2 ^ (w - 1) → (fits_signmag w (neg_ℤ (pos k)) ≡ true) × ((k ≡ 0 → ⊥) → signmag_bits w (neg_ℤ (pos k)) ≡ 2 ^ (w - 1) + k)
  below zero h = (lt-ltb 0 (2 ^ (w - 1)) h, λ n. absurd (n refl))
  below (suc k) h = (lt-ltb (suc k) (2 ^ (w - 1)) h, λ n. refl)

  pub signmag_fits : (v : ℕ) → v < 2 ^ w → fits_signmag w (signmag_of w v) ≡ true
  signmag_fits v h = go (dec_lt v (2 ^ (w - 1)))
    where
      go : Dec (v < 2 ^ (w - 1)) → fits_signmag w (signmag_of w v) ≡ true
      go (yes l) = rw (← signmag_low w v l) (lt-ltb v (2 ^ (w - 1)) l)
      go (no l) = rw (← signmag_high w v (2 ^ (w - 1)) refl (omega arith)) (below (v - 2 ^ (w - 1)) (omega (arith, half_twice w one))).0

  -- all bits but those of minus zero come back
  pub signmag_again : (v : ℕ) → v < 2 ^ w → (v ≡ 2 ^ (w - 1) → ⊥) → signmag_bits w (signmag_of w v) ≡ v
  signmag_again v h n = go (dec_lt v (2 ^ (w - 1)))
    where
      go : Dec (v < 2 ^ (w - 1)) → signmag_bits w (signmag_of w v) ≡ v
      go (yes l) = rw (← signmag_low w v l)
      go (no l) =
          let b = (below (v - 2 ^ (w - 1)) (omega (arith, half_twice w one))).1 (λ e. n (omega arith)) in
          rw (← signmag_high w v (2 ^ (w - 1)) refl (omega arith)) (b ∙ omega arith)

-- ---- the bits and the range of a number whose sign is known, as the code computes them from its magnitude m

module _ (w h m n : ℕ) (z : ℤ) (q : m ≡ mag z) (half : h ≡ 2 ^ (w - 1)) where
  pub twos_bits_neg : z ≡ negsuc n → h * 2 ≡ 2 ^ w → h - 1 + h - m ≡ twos_bits w z
  twos_bits_neg e d = let r : m ≡ n = q ∙ ap mag e in rw e (omega arith)

  pub signmag_bits_neg : z ≡ negsuc n → h + (m + 1) ≡ signmag_bits w z
  signmag_bits_neg e = let r : m ≡ n = q ∙ ap mag e in rw e (omega arith)

  pub fits_signmag_neg : z ≡ negsuc n → ltb (m + 1) h ≡ fits_signmag w z
  fits_signmag_neg e = let r : m + 1 ≡ suc n = omega (arith, q ∙ ap mag e) in rw e (ap₂ ltb r half)

  pub fits_signmag_pos : z ≡ pos n → ltb m h ≡ fits_signmag w z
  fits_signmag_pos e = let r : m ≡ n = q ∙ ap mag e in rw e (ap₂ ltb r half)

  pub bits_pos : z ≡ pos n → (m ≡ twos_bits w z) × (m ≡ signmag_bits w z)
  bits_pos e = let r : m ≡ n = q ∙ ap mag e in rw e (r, r)
