-- The frame of message 1005 that the standard works out, computed from the definitions. The marked examples are stated together in crate messages. Assumes nothing.
use mathlib.Core.Path.{◌≡◌, refl}
use mathlib.Core.List.{List, [], ◌∷◌, ◌++◌}
use mathlib.Core.Option.{some}
use Prim.Native.Nat.{ℕ}
use Rattle.bits.specs.Told.{Accepted}
use Rattle.bits.specs.Field.{field}
use Rattle.bits.specs.Crc.{crc_bit, crc_bits, crc_byte, crc_from, crc}
use Rattle.frames.specs.Scan.{Item, Skipped, Framed, scan}
use Rattle.frames.specs.Framing.{decide}
use Rattle.frames.specs.Feed as fed
use Rattle.frames.specs.Feed.{feed}
use Rattle.frames.specs.Frame.{check, frame_of}
use Rattle.frames.specs.Rtcm.{Why, NotD3, BadCheck, Kind, Rtcm, rtcm}
use Rattle.frames.specs.Walk.{Frame, next_from}

abbrev message : List ℕ
message =
    0x3E ∷ 0xD7 ∷ 0xD3 ∷ 0x02 ∷ 0x02 ∷ 0x98 ∷ 0x0E ∷ 0xDE ∷ 0xEF ∷ 0x34 ∷ 0xB4 ∷ 0xBD ∷ 0x62 ∷ 0xAC ∷ 0x09 ∷ 0x41 ∷ 0x98 ∷ 0x6F ∷ 0x33 ∷ []

abbrev frame : List ℕ
frame = 0xD3 ∷ 0x00 ∷ 0x13 ∷ message ++ (0x36 ∷ 0x0B ∷ 0x98 ∷ [])

-- the frame of the message, and what the check tells of it
pub standard_frame :
    (frame_of message ≡ frame)
    × (check frame ≡ Accepted (record { length = 25; carried = 19; number = some 1005; sum = 0x360B98 }))
unfolding frame_of check field crc_bit crc_bits crc_byte crc_from crc
standard_frame = (refl, refl)

-- three bytes before the frame: a D3 whose checksum differs, and two that are not D3
abbrev before : List (Item Why Kind)
before = Skipped (BadCheck 0xD30013 0x47EA4B) 0xD3 ∷ Skipped NotD3 0 ∷ Skipped NotD3 0 ∷ []

-- behind them the scan, the next frame from place 0 on, and a call of a fresh scanner come to it
pub standard_scan :
    (scan (decide rtcm) (0xD3 ∷ 0 ∷ 0 ∷ frame) ≡ record { items = before ++ (Framed Rtcm frame ∷ []); held = [] })
    × (next_from rtcm (0xD3 ∷ 0 ∷ 0 ∷ frame) 0 ≡ Accepted (Frame 3 25))
    × (feed (decide rtcm) [] (0xD3 ∷ 0 ∷ 0 ∷ frame) ≡ fed.Frame 28 before Rtcm frame [])
unfolding rtcm next_from field crc_bit crc_bits crc_byte crc_from crc
standard_scan = (refl, refl, refl)
