-- Answers at the C surface, computed from the definitions. Assumes nothing.
use mathlib.Core.Path.{◌≡◌, refl}
use mathlib.Core.List.{List, [], ◌∷◌}
use Prim.Native.Nat.{ℕ, ◌-◌, ◌^◌}
use lib.ListN.{replicate}
use Rattle.bits.specs.Told.{Accepted}
use Rattle.bits.specs.Signed.{twos_of}
use Rattle.bits.specs.Field.{field, missing, set_bit, put_field, with_bit, read_by, read_unsigned, read_twos, write_by, write_unsigned}
use Rattle.bits.specs.Crc.{crc_bit, crc_bits, crc_byte, crc_from, crc}
use Rattle.frames.specs.Frame.{check}
use Rattle.messages.specs.SignalOrder.{less}
use Rattle.peerivolt.specs.Extra.{returned, answered, reads}
use Rattle.peerivolt.specs.Fields.{reading_values, signed_values, end_values}
use Rattle.peerivolt.specs.Frames.{whole_values}
use Rattle.peerivolt.specs.Signals.{order_values}

-- an extra area that holds something else before
abbrev pub rubbish : List ℕ
rubbish = replicate 8 77

-- the frame that carries nothing: all eight numbers are written
pub checked :
    reads whole_values (check (0xD3 ∷ 0 ∷ 0 ∷ 0x47 ∷ 0xEA ∷ 0x4B ∷ [])) rubbish
    ≡ returned 0 (6 ∷ 0 ∷ 0 ∷ 0 ∷ 0x47EA4B ∷ 0 ∷ 0 ∷ 0 ∷ []) tt
unfolding answered check field crc_bit crc_bits crc_byte crc_from crc
checked = refl

-- refused: Incomplete carries nothing, Short the place and the bits that are missing
pub refused :
    (reads whole_values (check []) rubbish ≡ returned 12 (replicate 8 0) tt)
    × (reads reading_values (read_unsigned (0 ∷ []) 3 8) rubbish ≡ returned 1 (3 ∷ 3 ∷ replicate 6 0) tt)
unfolding answered check read_by field missing
refused = (refl, refl)

-- an extra area of seven or nine numbers: Size, and it stays, and so do the data of a call that writes
pub other_size :
    (reads whole_values (check []) (replicate 7 77) ≡ returned 9 (replicate 7 77) tt)
    × (answered end_values (replicate 9 77) (0 ∷ []) (write_unsigned (0 ∷ []) 0 8 5) ≡ returned 9 (replicate 9 77) (0 ∷ []))
unfolding answered
other_size = (refl, refl)

-- 5 written to eight bits ends at bit 8
pub wrote_five : answered end_values rubbish (0 ∷ []) (write_unsigned (0 ∷ []) 0 8 5) ≡ returned 0 (8 ∷ replicate 7 0) (5 ∷ [])
unfolding answered write_by put_field set_bit with_bit
wrote_five = refl

-- a number below zero is 64 bits of two's complement
pub below_zero :
    (reads signed_values (read_twos (0xD3 ∷ []) 0 8) rubbish ≡ returned 0 ((2 ^ 64 - 45) ∷ replicate 7 0) tt)
    × (reads order_values (Accepted less) rubbish ≡ returned 0 ((2 ^ 64 - 1) ∷ replicate 7 0) tt)
unfolding answered read_by field twos_of
below_zero = (refl, refl)
