-- What a raw number of an observation measures. Assumes nothing.
use Rattle.std.specs.Prelude.{Bool, false, cond, not, ℕ, ℤ, pos, negsuc, T, eqb, Float}
use Rattle.std.specs.Float.{binary64}
use Rattle.std.specs.Float.Ieee.{round, of_int, mul, is_nan}
use Rattle.observations.specs.declared.measured.Measured.{Measured}
use Rattle.observations.specs.declared.measured.Measured.TheVariants.{Absent, Count, Metres}

-- the raw number as f64 times n / d metres, rounded once
abbrev pub length_of : ℕ → ℕ → ℤ → Float
length_of n d raw = mul binary64 (of_int binary64 raw) (round binary64 false n d)

-- DF011: FFFFFF hex is absent, any other number a length in 0.02 m
unfoldable pub pseudorange_of : ℕ → Measured
pseudorange_of raw = cond (eqb raw 0xFFFFFF) Absent (Metres (length_of 2 100 (pos raw)))

-- minus 80000 hex
abbrev pub is_phase_marker : ℤ → Bool
is_phase_marker (pos n) = false
is_phase_marker (negsuc n) = eqb n 0x7FFFF

-- DF012: minus 80000 hex is absent, any other number a length in 0.0005 m
unfoldable pub phase_of : ℤ → Measured
phase_of raw = cond (is_phase_marker raw) Absent (Metres (length_of 5 10000 raw))

-- DF013: a plain count
abbrev pub lock_of : ℕ → Measured
lock_of raw = Count raw

-- a length, where there is one, is a number
abbrev pub IsNumber : Measured → Type 0
IsNumber Absent = Unit
IsNumber (Count n) = Unit
IsNumber (Metres x) = T (not (is_nan x))
