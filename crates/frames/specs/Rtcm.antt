-- The framing of RTCM 3. Assumes nothing.
use Rattle.std.specs.Prelude.{cond, List, [], ◌∷◌, ℕ, ◌+◌, get_or, eqb}
use Rattle.bits.specs.Told.{Told, Accepted, Refused}
use Rattle.frames.specs.Scan.{Decision, Skip, Take, Wait}
use Rattle.frames.specs.Framing.{Framing}
use Rattle.frames.specs.Frame.{data_length, sent_sum, own_sum, Whole, check}

-- why a byte starts no UBX frame: it is not B5; no 62 follows; the payload is above 1,021 bytes; the two sums sent are not those computed
pub data UbxWhy : Type 0 where
  NotB5 : UbxWhy
  No62 : UbxWhy
  TooLong : (payload : ℕ) → UbxWhy
  BadSums : (sent computed : ℕ × ℕ) → UbxWhy

-- why a byte is skipped: it is not D3; or it is, and the checksum sent is not the one computed; or it starts no UBX frame
pub data Why : Type 0 where
  NotD3 : Why
  BadCheck : (sent computed : ℕ) → Why
  OfUbx : UbxWhy → Why

-- the kinds of frames
pub data Kind : Type 0 where
  Rtcm : Kind
  Ubx : Kind

-- A byte other than D3 is decided by itself, a D3 by L + 6 bytes: a frame if the checksums agree. (Of bits that are not there yet the length reads 0, and 6 bytes are needed to know it.)
unfoldable pub rtcm : Framing Why Kind
rtcm =
    record {
      need = λ s. cond (eqb (get_or s 0 0) 0xD3) (data_length s + 6) 1;
      verdict = λ s.
          cond (eqb (get_or s 0 0) 0xD3)
          (cond (eqb (own_sum s) (sent_sum s)) (Take Rtcm (data_length s + 6)) (Skip (BadCheck (sent_sum s) (own_sum s))))
          (Skip NotD3);
    }

-- ---- the same decision, by the frame check

-- At D3 the frame check decides: good, the frame is handed out; Incomplete (12), scanning stops there; BadCheck, that one byte is skipped, for the checksums that it carries.
abbrev pub at_d3 : Told Whole → Decision Why Kind
at_d3 (Accepted w) = Take Rtcm w.length
at_d3 (Refused n carried) = cond (eqb n 12) Wait (Skip (BadCheck (get_or carried 0 0) (get_or carried 1 0)))

-- with no byte, wait; a byte other than D3 is skipped
abbrev pub decide_at : List ℕ → Decision Why Kind
decide_at [] = Wait
decide_at (x ∷ s) = cond (eqb x 0xD3) (at_d3 (check (x ∷ s))) (Skip NotD3)
