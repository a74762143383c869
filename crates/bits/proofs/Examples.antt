-- Published vectors of the checksum and of fields, computed from the definitions. The marked examples are stated together in crate messages. Assumes nothing.
use mathlib.Core.Path.{◌≡◌, refl}
use mathlib.Core.List.{List, [], ◌∷◌}
use Prim.Native.Nat.{ℕ}
use lib.IntN.{negsuc}
use Rattle.bits.specs.Told.{Accepted}
use Rattle.bits.specs.Field.{field, reading, read_by, read_unsigned, read_twos}
use Rattle.bits.specs.Signed.{twos_of}
use Rattle.bits.specs.Crc.{crc_bit, crc_bits, crc_byte, crc_from, crc}

-- the catalogued checksum of the digits 1 to 9
pub catalogued : crc (0x31 ∷ 0x32 ∷ 0x33 ∷ 0x34 ∷ 0x35 ∷ 0x36 ∷ 0x37 ∷ 0x38 ∷ 0x39 ∷ []) ≡ 0xCDE703
unfolding crc_bit crc_bits crc_byte crc_from crc
catalogued = refl

-- the message 1005 that the standard works out
abbrev message : List ℕ
message =
    0x3E ∷ 0xD7 ∷ 0xD3 ∷ 0x02 ∷ 0x02 ∷ 0x98 ∷ 0x0E ∷ 0xDE ∷ 0xEF ∷ 0x34 ∷ 0xB4 ∷ 0xBD ∷ 0x62 ∷ 0xAC ∷ 0x09 ∷ 0x41 ∷ 0x98 ∷ 0x6F ∷ 0x33 ∷ []

-- its number, its station 2003, and the station's place along Y, -4850729.7108 m
pub station :
    (read_unsigned message 0 12 ≡ Accepted (reading 1005 12))
    × (read_unsigned message 12 12 ≡ Accepted (reading 2003 24))
    × (read_twos message 74 38 ≡ Accepted (reading (negsuc 48507297107) 112))
unfolding field read_by twos_of
station = (refl, refl, refl)
