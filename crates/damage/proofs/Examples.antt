-- The empty frame is sealed, and so are two strings that differ within 25 bits: 24 is the most that the law can say. Assumes nothing.
use mathlib.Core.Path.{◌≡◌, refl}
use mathlib.Core.List.{[], ◌∷◌}
use lib.Dec.{lit≤}
use Rattle.bits.specs.Crc.{crc, crc_from, crc_byte, crc_bits, crc_bit}
use Rattle.bits.specs.Field.{field}
use Rattle.bits.specs.Told.{Accepted, size}
use Rattle.damage.specs.Damage.{Sealed}
use Rattle.damage.specs.Compare.{past_last, first_from, run, compare}

frame : Sealed (0xD3 ∷ 0 ∷ 0 ∷ 0x47 ∷ 0xEA ∷ 0x4B ∷ [])
unfolding crc crc_from crc_byte crc_bits crc_bit field
frame = record { long = lit≤ tt; check = refl }

-- the smallest example that slips through: these two differ within the 25 bits from bit 7 on
zeros : Sealed (0 ∷ 0 ∷ 0 ∷ 0 ∷ [])
unfolding crc crc_from crc_byte crc_bits crc_bit field
zeros = record { long = lit≤ tt; check = refl }

polynomial : Sealed (1 ∷ 0x86 ∷ 0x4C ∷ 0xFB ∷ [])
unfolding crc crc_from crc_byte crc_bits crc_bit field
polynomial = record { long = lit≤ tt; check = refl }

-- a comparison: bytes 1 to 2 differ, of 4
comparison :
    (compare (1 ∷ 2 ∷ 3 ∷ 4 ∷ []) (1 ∷ 0 ∷ 0 ∷ 4 ∷ []) ≡ Accepted (run 1 2))
    × (compare (1 ∷ 2 ∷ []) (1 ∷ 2 ∷ []) ≡ Accepted (run 0 0))
    × (compare (1 ∷ []) [] ≡ size)
unfolding past_last first_from compare
comparison = (refl, refl, refl)
