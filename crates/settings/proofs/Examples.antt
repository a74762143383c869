-- A block of zeros passes its check but has edition 0. Assumes nothing.
use mathlib.Core.Path.{◌≡◌, refl}
use lib.ListN.{replicate}
use Rattle.bits.specs.Told.{kind}
use Rattle.bits.specs.Crc.{crc, crc_from, crc_byte, crc_bits, crc_bit}
use Rattle.bits.specs.Field.{field}
use Rattle.settings.specs.Read.{can_read, judge}

zeros_refused : (judge (replicate 512 0) 1 0 ≡ kind) × (judge (replicate 512 0) 2 0 ≡ kind)
unfolding crc crc_from crc_byte crc_bits crc_bit field can_read judge
zeros_refused = (refl, refl)
