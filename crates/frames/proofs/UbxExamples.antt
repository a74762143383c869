-- Two frames that every UBX receiver sends or takes, and streams that mix them with RTCM, computed from the definitions. Assumes nothing.
use mathlib.Core.Path.{◌≡◌, refl}
use mathlib.Core.List.{List, [], ◌∷◌, ◌++◌}
use Prim.Native.Nat.{ℕ}
use Rattle.bits.specs.Field.{field}
use Rattle.bits.specs.Crc.{crc_bit, crc_bits, crc_byte, crc_from, crc}
use Rattle.frames.specs.Scan.{Skip, Wait, Skipped, Framed, scan}
use Rattle.frames.specs.Framing.{decide}
use Rattle.frames.specs.Rtcm.{NotD3, OfUbx, No62, TooLong, BadSums, Rtcm, Ubx, rtcm}
use Rattle.frames.specs.Ubx.{sums_from, ubx}
use Rattle.frames.specs.Either.{either}
use Rattle.frames.specs.Modes.{both}
use Rattle.frames.specs.Close.{Judged, Unfinished, closing}

-- an acknowledgement (class 05, id 01, two bytes), the question for the version (class 0A, id 04, no payload), and an RTCM frame without data
abbrev ack : List ℕ
ack = 0xB5 ∷ 0x62 ∷ 0x05 ∷ 0x01 ∷ 0x02 ∷ 0x00 ∷ 0x06 ∷ 0x01 ∷ 0x0F ∷ 0x38 ∷ []

abbrev version : List ℕ
version = 0xB5 ∷ 0x62 ∷ 0x0A ∷ 0x04 ∷ 0x00 ∷ 0x00 ∷ 0x0E ∷ 0x34 ∷ []

abbrev empty : List ℕ
empty = 0xD3 ∷ 0x00 ∷ 0x00 ∷ 0x47 ∷ 0xEA ∷ 0x4B ∷ []

-- both kinds, leftmost first; a B5 without 62 is skipped by itself
pub mixed :
    scan (decide both) (ack ++ (0xB5 ∷ 0x00 ∷ empty ++ (version ++ (0xB5 ∷ 0x62 ∷ []))))
    ≡ record {
      items = Framed Ubx ack ∷ Skipped (OfUbx No62) 0xB5 ∷ Skipped NotD3 0x00 ∷ Framed Rtcm empty ∷ Framed Ubx version ∷ [];
      held = 0xB5 ∷ 0x62 ∷ [];
    }
unfolding either ubx rtcm sums_from field crc_bit crc_bits crc_byte crc_from crc
mixed = refl

-- a payload of 1,021 bytes is awaited, to 1,029 bytes in all; one of 1,022 is not; wrong sums are told
pub limits :
    (decide ubx (0xB5 ∷ 0x62 ∷ 0x01 ∷ 0x07 ∷ 0xFD ∷ 0x03 ∷ []) ≡ Wait)
    × (ubx.need (0xB5 ∷ 0x62 ∷ 0x01 ∷ 0x07 ∷ 0xFD ∷ 0x03 ∷ []) ≡ 1029)
    × (decide ubx (0xB5 ∷ 0x62 ∷ 0x01 ∷ 0x07 ∷ 0xFE ∷ 0x03 ∷ []) ≡ Skip (OfUbx (TooLong 1022)))
    × (decide ubx (0xB5 ∷ 0x62 ∷ 0x0A ∷ 0x04 ∷ 0x00 ∷ 0x00 ∷ 0x0E ∷ 0x35 ∷ []) ≡ Skip (OfUbx (BadSums (0x0E, 0x35) (0x0E, 0x34))))
unfolding ubx sums_from
limits = (refl, refl, refl, refl)

-- how many bytes are asked for, byte by byte
pub asked :
    (ubx.need [] ≡ 1) × (ubx.need (0xB5 ∷ []) ≡ 2) × (ubx.need (0xB5 ∷ 0x62 ∷ []) ≡ 6) × (ubx.need (0xB5 ∷ 0x62 ∷ 0x01 ∷ 0x07 ∷ 0x02 ∷ []) ≡ 6)
    × (ubx.need (0xB5 ∷ 0x62 ∷ 0x01 ∷ 0x07 ∷ 0x02 ∷ 0x00 ∷ []) ≡ 10)
unfolding ubx
asked = (refl, refl, refl, refl, refl)

-- a false D3 near the end hides a frame; closing finds it
pub salvaged :
    (scan (decide rtcm) (0xD3 ∷ 0x03 ∷ 0xFF ∷ empty) ≡ record { items = []; held = 0xD3 ∷ 0x03 ∷ 0xFF ∷ empty })
    × (scan (closing (decide rtcm)) (0xD3 ∷ 0x03 ∷ 0xFF ∷ empty)
    ≡ record { items = Skipped Unfinished 0xD3 ∷ Skipped (Judged NotD3) 0x03 ∷ Skipped (Judged NotD3) 0xFF ∷ Framed Rtcm empty ∷ []; held = [] })
unfolding rtcm field crc_bit crc_bits crc_byte crc_from crc
salvaged = (refl, refl)
