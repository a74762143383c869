-- The field calls of the C surface. Assumes nothing.
use Rattle.std.specs.Prelude.{List, [], ◌∷◌, ℕ, ℤ}
use Rattle.bits.specs.Signed.{twos_bits}
use Rattle.bits.specs.Field.{Reading}

-- [0] the value
abbrev pub reading_values : Reading ℕ → List ℕ
reading_values r = r.value ∷ []

-- [0] the value, in 64 bits of two's complement
abbrev pub signed_values : Reading ℤ → List ℕ
signed_values r = twos_bits 64 r.value ∷ []

-- [0] the end bit of what was written, or the frame's length
abbrev pub end_values : ℕ → List ℕ
end_values q = q ∷ []
