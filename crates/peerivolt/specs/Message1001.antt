-- The calls of the C surface over message 1001. Assumes nothing.
use Rattle.std.specs.Prelude.{List, [], ◌∷◌, ℕ}
use Rattle.std.specs.Float.{binary64}
use Rattle.std.specs.Float.Ieee.{to_bits}
use Rattle.observations.specs.Read1001.{Seen}
use Rattle.observations.specs.declared.answer.Header.{Header}
use Rattle.observations.specs.declared.measured.Measured.{Measured}
use Rattle.observations.specs.declared.measured.Measured.TheVariants.{Absent, Count, Metres}

-- a header of its numbers
abbrev pub header : ℕ → ℕ → ℕ → ℕ → ℕ → Header
header station epoch synchronous smoothing interval =
    record { station = station; epoch = epoch; synchronous = synchronous; smoothing = smoothing; interval = interval }

-- [0] how many observations, [1] the end bit, [2] station, [3] epoch, [4] synchronous flag, [5] smoothing flag, [6] smoothing interval
abbrev pub seen_values : Seen → List ℕ
seen_values s =
    let h = s.header in
    s.count ∷ s.end ∷ h.station ∷ h.epoch ∷ h.synchronous ∷ h.smoothing ∷ h.interval ∷ []

-- [0] 0 absent, 1 a count, 2 metres; [1] the count, or the 64 bits of the double
abbrev pub measured_values : Measured → List ℕ
measured_values Absent = 0 ∷ []
measured_values (Count n) = 1 ∷ n ∷ []
measured_values (Metres x) = 2 ∷ to_bits binary64 x ∷ []
