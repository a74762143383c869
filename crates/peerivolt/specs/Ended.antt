-- How a recording is closed by `pv_close` as C sees it: its number, its eight numbers and its two areas. Assumes nothing.
use Rattle.std.specs.Prelude.{◌≡◌, List, [], ◌∷◌, ℕ, ◌+◌}
use Rattle.frames.specs.Rtcm.{Kind}
use Rattle.frames.specs.Modes.{framing_of}
use Rattle.frames.specs.Scan.{Handed}
use Rattle.frames.specs.Close.{close_of}
use Rattle.frames.specs.Offered.{handed_out}
use Rattle.peerivolt.specs.Extra.{Returned, returned}
use Rattle.peerivolt.specs.Scanner.{scanner_of}
use Rattle.peerivolt.specs.Closing.{closes}
use Rattle.peerivolt.specs.Feeding.{more_numbers, frame_numbers}

-- the eight numbers of Done: bytes skipped in this call, the held count m and the bytes n taken since fresh, now
abbrev pub done_numbers : ℕ → ℕ → ℕ → List ℕ
done_numbers s m n = more_numbers 0 s m n

module _ (mode : ℕ) where
  -- what the statement of `pv_close` says of a call in the mode with the held area a, the held count m and n bytes taken since fresh, the output o and the extra area e
  abbrev pub pv_close : List ℕ → ℕ → ℕ → List ℕ → List ℕ → Returned (List ℕ × List ℕ)
  pv_close a m n o e = closes a o (close_of (framing_of mode) a (scanner_of m n mode) o) e

  -- Closing calls until Done, each with some output and extra area. In order: the held area, the held count and the bytes taken before, the frames found, the total skipped, the held count and the bytes taken after.
  pub data PvCloses : List ℕ → ℕ → ℕ → List (Handed Kind) → ℕ → ℕ → ℕ → Type 0 where
    done : {a b q : List ℕ} {m n s m' n' : ℕ} (o e : List ℕ) → pv_close a m n o e ≡ returned 0 (done_numbers s m' n') (b, q) → PvCloses a m n [] s m' n'
    then : {a b q : List ℕ} {m n s l i m' n' u v w : ℕ} {k : Kind} {fs : List (Handed Kind)} (o e : List ℕ)
        → pv_close a m n o e ≡ returned 0 (frame_numbers l 0 s i k m' n') (b, q) → PvCloses b m' n' fs u v w → PvCloses a m n (handed_out i k l q ∷ fs) (s + u) v w
