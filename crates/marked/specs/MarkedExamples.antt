-- The marked examples, as one list of what the definitions must give. Assumes nothing.
use Rattle.std.specs.Prelude.{◌≡◌, List, [], ◌∷◌, ℕ, replicate, ℤ, pos, negsuc}
use Rattle.std.proofs.Math.Option.{none}
use Rattle.bits.specs.Told.{Told, Accepted, range, bad_check, incomplete}
use Rattle.bits.specs.Outcome.{Outcome, outcome}
use Rattle.bits.specs.Field.{Reading, reading, read_unsigned, read_twos, read_signmag, write_twos}
use Rattle.bits.specs.Crc.{crc}
use Rattle.frames.specs.Scan.{scan, frames_of, skipped_of}
use Rattle.frames.specs.Framing.{decide}
use Rattle.frames.specs.Frame.{Whole, check}
use Rattle.frames.specs.Rtcm.{Kind, rtcm}
use Rattle.frames.specs.Call.{fresh, FedAnswer, More, feed_of}
use Rattle.messages.specs.Write1059.{write1059}
use Rattle.messages.specs.Write1230.{write1230}

-- an input and what is to come of it
pub data Example : Type 0 where
  -- the checksum of bytes
  Checksum : List ℕ → ℕ → Example
  -- the frame check of bytes
  Check : List ℕ → Told Whole → Example
  -- the whole-stream scan of bytes: how many are skipped, the frames, the bytes held
  Scan : List ℕ → ℕ → List (List ℕ) → List ℕ → Example
  -- the answer of a fresh scanner to a piece
  Feed : List ℕ → Told (FedAnswer Kind) → Example
  -- the field of some bytes, by its start and width: unsigned, two's complement, sign-magnitude
  Fields : List ℕ → ℕ → ℕ → Told (Reading ℕ) → Told (Reading ℤ) → Told (Reading ℤ) → Example
  -- the answer to writing a number in two's complement, by its width, at the start of eight zero bytes
  Twos : ℕ → ℤ → Told ℕ → Example
  -- a block written at the start of some bytes, by the lists of its records
  Write1059 : List ℕ → List ℕ → List ℕ → List ℤ → Outcome ℕ (List ℕ) → Example
  Write1230 : List ℕ → List ℕ → List ℤ → Outcome ℕ (List ℕ) → Example

-- n zero bytes
abbrev pub zeros : ℕ → List ℕ
zeros n = replicate n 0

-- the definitions give that
abbrev pub Given : Example → Type 0
Given (Checksum s c) = crc s ≡ c
Given (Check s t) = check s ≡ t
Given (Scan s n fs h) = (skipped_of (scan (decide rtcm) s).items ≡ n) × (frames_of (scan (decide rtcm) s).items ≡ fs) × ((scan (decide rtcm) s).held ≡ h)
Given (Feed s t) = (feed_of rtcm (zeros 1029) (fresh 0) s (zeros 1029)).answer ≡ t
Given (Fields s p w u z m) = (read_unsigned s p w ≡ u) × (read_twos s p w ≡ z) × (read_signmag s p w ≡ m)
Given (Twos w z t) = (write_twos (zeros 8) 0 w z).answer ≡ t
Given (Write1059 s sats gs zs w) = write1059 1 s 0 sats gs zs ≡ w
Given (Write1230 s gs zs w) = write1230 s 0 gs zs ≡ w

-- the frame of no data
abbrev pub empty : List ℕ
empty = 0xD3 ∷ 0x00 ∷ 0x00 ∷ 0x47 ∷ 0xEA ∷ 0x4B ∷ []

-- the list, each under its own words
abbrev pub examples : List Example
examples =
    -- 1. Checksum of nothing: 0. Of D3: E33309. Of D3 00 00: 47EA4B.
    Checksum [] 0 ∷
    Checksum (0xD3 ∷ []) 0xE33309 ∷
    Checksum (0xD3 ∷ 0x00 ∷ 0x00 ∷ []) 0x47EA4B ∷
    -- 2. D3 00 00 47 EA 4B: frame of 6, no number; the same with 00 00 behind it.
    Check (0xD3 ∷ 0x00 ∷ 0x00 ∷ 0x47 ∷ 0xEA ∷ 0x4B ∷ []) (Accepted (record { length = 6; carried = 0; number = none; sum = 0x47EA4B })) ∷
    Check (0xD3 ∷ 0x00 ∷ 0x00 ∷ 0x47 ∷ 0xEA ∷ 0x4B ∷ 0x00 ∷ 0x00 ∷ []) (Accepted (record { length = 6; carried = 0; number = none; sum = 0x47EA4B })) ∷
    -- 3. D3 00 00 47 EA 4A: BadCheck, 47EA4A sent and 47EA4B computed. No bytes: Incomplete.
    Check (0xD3 ∷ 0x00 ∷ 0x00 ∷ 0x47 ∷ 0xEA ∷ 0x4A ∷ []) (bad_check 0x47EA4A 0x47EA4B) ∷
    Check [] incomplete ∷
    -- 4. D3 00 00 D3 00 00 47 EA 4B: 3 skipped, one frame.
    Scan (0xD3 ∷ 0x00 ∷ 0x00 ∷ empty) 3 (empty ∷ []) [] ∷
    -- 5. D3 D3 00 00 47 EA 4B: More, 7 held.
    Feed (0xD3 ∷ empty) (Accepted (More 7 0 (record { count = 7; taken = 7; mode = 0 }))) ∷
    -- 6. A5, start 2, width 3: 4; two's complement -4; sign-magnitude 0.
    Fields (0xA5 ∷ []) 2 3 (Accepted (reading 4 5)) (Accepted (reading (negsuc 3) 5)) (Accepted (reading (pos 0) 5)) ∷
    -- 7. Width 14: -8192 and 8191 fit, 8192 and 10000 are Range.
    Twos 14 (negsuc 8191) (Accepted 14) ∷
    Twos 14 (pos 8191) (Accepted 14) ∷
    Twos 14 (pos 8192) (range 0) ∷
    Twos 14 (pos 10000) (range 0) ∷
    -- 8. 1059, satellite 5, signal 0, bias 100, into five zero bytes: 04 50 80 06 40, end bit 36.
    Write1059 (zeros 5) (5 ∷ []) (0 ∷ []) (pos 100 ∷ []) (outcome (Accepted 36) (0x04 ∷ 0x50 ∷ 0x80 ∷ 0x06 ∷ 0x40 ∷ [])) ∷
    -- 9. 1230, 2P = -1 and 1C = 1, into five zero bytes: 90 00 1F FF F0, end bit 36.
    Write1230 (zeros 5) (9 ∷ 2 ∷ []) (negsuc 0 ∷ pos 1 ∷ []) (outcome (Accepted 36) (0x90 ∷ 0x00 ∷ 0x1F ∷ 0xFF ∷ 0xF0 ∷ [])) ∷
    []
