-- Byte strings that end in their checksum, and strings that differ within a run of bits. Assumes nothing.
use Rattle.std.specs.Prelude.{◌≡◌, ◌⊎◌, List, ℕ, ◌+◌, ◌-◌, ◌*◌, ◌≤◌, ◌<◌, length, take}
use Rattle.bits.specs.Crc.{crc}
use Rattle.bits.specs.Field.{bit_at, field}

-- at least three bytes, of which the last three are the checksum of the bytes before, highest first
pub record Sealed (s : List ℕ) : Type 0 where
  pub long : 3 ≤ length s
  pub check : field s ((length s - 3) * 8) 24 ≡ crc (take (length s - 3) s)

-- every bit outside the w consecutive bits from bit p on is the same in both
pub record DifferWithin (p w : ℕ) (s t : List ℕ) : Type 0 where
  pub outside : (i : ℕ) → i < length s * 8 → (i < p) ⊎ (p + w ≤ i) → bit_at s i ≡ bit_at t i
