-- The constants of the code are the units, and its test is the marker. Assumes nothing.
use mathlib.Core.Path.{◌≡◌, refl, ap}
use mathlib.Core.Bool.{Bool, true, false, cond, false≢true}
use Prim.Native.Nat.{ℕ, zero, suc, ◌+◌, ◌*◌, ◌^◌}
use lib.Dec.{ltb, eqb}
use lib.IntN.{ℤ, pos, negsuc}
use borrow.Author.Tests.{eqb-true}
use Rattle.observations.specs.Measured.{length_of, pseudorange_of, is_phase_marker, phase_of, IsNumber}
use Rattle.observations.specs.declared.measured.Measured.TheVariants.{Absent, Metres}
use lib.Ieee.{Float, Format, nan, inf, fin, binary64, prec, emax, low, of_bits, of_fields, round, units, odd, size, mul, of_int, is_nan}

pub hundredths : of_bits binary64 4581421828931458171 ≡ round binary64 false 2 100
unfolding of_bits round odd units size of_fields
hundredths = refl

pub halves : of_bits binary64 4557750909289998844 ≡ round binary64 false 5 10000
unfolding of_bits round odd units size of_fields
halves = refl

-- ---- the marker, minus 2 ^ 19

is_marker : (z : ℤ) → is_phase_marker z ≡ true → z ≡ negsuc 0x7FFFF
is_marker (pos n) e = absurd (false≢true e)
is_marker (negsuc n) e = ap negsuc (eqb-true n 0x7FFFF e)

pub marked : (z : ℤ) → z ≡ negsuc 0x7FFFF → is_phase_marker z ≡ true
marked z e = ap is_phase_marker e

pub unmarked : (z : ℤ) → (z ≡ negsuc 0x7FFFF → ⊥) → is_phase_marker z ≡ false
unmarked z n = go (is_phase_marker z) refl
  where
    go : (b : Bool) → is_phase_marker z ≡ b → b ≡ false
    go true e = absurd (n (is_marker z e))
    go false e = refl

-- ---- a length is a number

odd_number : (d : ℕ) (s : Bool) (q k l : ℕ) → is_nan (odd d s q k l) ≡ false
unfolding odd is_nan
odd_number d s zero k l = refl
odd_number d s (suc q) k l = refl

units_number : (f : Format) (s : Bool) (q k : ℕ) → is_nan (units f s q k) ≡ false
unfolding units is_nan
units_number f s q k = go (ltb (q * 2 ^ k) (2 ^ (low f + suc (emax f))))
  where
    go : (b : Bool) → is_nan (cond b (odd (suc (prec f)) s q k (low f)) (inf s)) ≡ false
    go true = odd_number (suc (prec f)) s q k (low f)
    go false = refl

round_number : (f : Format) (s : Bool) (n d : ℕ) → is_nan (round f s n d) ≡ false
unfolding round
round_number f s n d = units_number f s _ _

times_number : (f : Format) (x : Float) (t : Bool) (n : ℕ) (d : ℤ) → is_nan x ≡ false → eqb n 0 ≡ false → is_nan (mul f x (fin t n d)) ≡ false
unfolding mul is_nan
times_number f nan t n d e z = e
times_number f (inf s) t n d e z = rw z refl
times_number f (fin s m k) t n d e z = round_number f _ _ _

int_number : (f : Format) (z : ℤ) → is_nan (of_int f z) ≡ false
unfolding of_int
int_number f (pos n) = round_number f false n 1
int_number f (negsuc n) = round_number f true (suc n) 1

pseudorange_unit : round binary64 false 2 100 ≡ fin false 5764607523034235 (negsuc 57)
unfolding round odd units size
pseudorange_unit = refl

phase_unit : round binary64 false 5 10000 ≡ fin false 1152921504606847 (negsuc 60)
unfolding round odd units size
phase_unit = refl

pseudorange_number : (z : ℤ) → is_nan (length_of 2 100 z) ≡ false
pseudorange_number z = rw pseudorange_unit (times_number binary64 (of_int binary64 z) false 5764607523034235 (negsuc 57) (int_number binary64 z) refl)

phase_number : (z : ℤ) → is_nan (length_of 5 10000 z) ≡ false
phase_number z = rw phase_unit (times_number binary64 (of_int binary64 z) false 1152921504606847 (negsuc 60) (int_number binary64 z) refl)

either : (b : Bool) (x : Float) → is_nan x ≡ false → IsNumber (cond b Absent (Metres x))
either true x e = tt
either false x e = rw e tt

pub pseudorange_is : (raw : ℕ) → IsNumber (pseudorange_of raw)
unfolding pseudorange_of
pseudorange_is raw = either (eqb raw 0xFFFFFF) (length_of 2 100 (pos raw)) (pseudorange_number (pos raw))

pub phase_is : (raw : ℤ) → IsNumber (phase_of raw)
unfolding phase_of
phase_is raw = either (is_phase_marker raw) (length_of 5 10000 raw) (phase_number raw)
