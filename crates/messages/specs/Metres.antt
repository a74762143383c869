-- Raw biases in metres. Assumes nothing.
use Rattle.std.specs.Prelude.{false, ℕ, ℤ, pos, ◌*ℤ◌, Float}
use Rattle.std.specs.Float.{binary32}
use Rattle.std.specs.Float.Ieee.{round, of_int, mul}

-- n hundredths of a metre, as the nearest f32
abbrev pub hundredths : ℕ → Float
hundredths n = round binary32 false n 100

-- the raw number as f32 times the unit, rounded once
abbrev pub metres : ℕ → ℤ → Float
metres n raw = mul binary32 (of_int binary32 raw) (hundredths n)

-- the raw number times the unit, in whole hundredths of a metre
abbrev pub whole_hundredths : ℕ → ℤ → ℤ
whole_hundredths n raw = raw *ℤ pos n

-- a 1059 bias, in 0.01 m
abbrev pub metres1059 : ℤ → Float
metres1059 raw = metres 1 raw

-- a 1230 bias, in 0.02 m
abbrev pub metres1230 : ℤ → Float
metres1230 raw = metres 2 raw

-- a 1059 bias in hundredths of a metre
abbrev pub hundredths1059 : ℤ → ℤ
hundredths1059 raw = whole_hundredths 1 raw

-- a 1230 bias in hundredths of a metre
abbrev pub hundredths1230 : ℤ → ℤ
hundredths1230 raw = whole_hundredths 2 raw
