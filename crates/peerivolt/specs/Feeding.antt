-- How a stream is fed to `pv_feed` as C sees it: its number, its eight numbers and its two areas. Assumes nothing.
use Rattle.std.specs.Prelude.{◌≡◌, List, [], ◌∷◌, ◌++◌, ℕ, ◌+◌, take, drop}
use Rattle.frames.specs.Rtcm.{Kind}
use Rattle.frames.specs.Modes.{framing_of}
use Rattle.frames.specs.Scan.{Handed}
use Rattle.frames.specs.Call.{feed_of}
use Rattle.frames.specs.Offered.{handed_out}
use Rattle.peerivolt.specs.Extra.{Returned, returned}
use Rattle.peerivolt.specs.Scanner.{scanner_of, kind_number, feeds}

-- the eight numbers of More: bytes taken and skipped in this call, the held count m and the bytes n taken since fresh, now
abbrev pub more_numbers : ℕ → ℕ → ℕ → ℕ → List ℕ
more_numbers t s m n = 0 ∷ t ∷ s ∷ m ∷ 0 ∷ 0 ∷ n ∷ 0 ∷ []

-- and of a frame of l bytes and kind k at place i: the same
abbrev pub frame_numbers : ℕ → ℕ → ℕ → ℕ → Kind → ℕ → ℕ → List ℕ
frame_numbers l t s i k m n = 1 ∷ t ∷ s ∷ m ∷ l ∷ i ∷ n ∷ kind_number k ∷ []

module _ (mode : ℕ) where
  -- what the statement of `pv_feed` says of a call in the mode with the held area a, the held count m and n bytes taken since fresh, the piece p, the output o and the extra area e
  abbrev pub pv_feed : List ℕ → ℕ → ℕ → List ℕ → List ℕ → List ℕ → Returned (List ℕ × List ℕ)
  pv_feed a m n p o e = feeds a o (feed_of (framing_of mode) a (scanner_of m n mode) p o) e

  -- One piece, fed again and again from its first untaken byte until the call tells More, each time with some output and extra area. In order: the held area, the held count and the bytes taken before, the piece, the frames found, the total skipped, the held area, the held count and the bytes taken after.
  pub data PvOffered : List ℕ → ℕ → ℕ → List ℕ → List (Handed Kind) → ℕ → List ℕ → ℕ → ℕ → Type 0 where
    last : {a p b q : List ℕ} {m n t s m' n' : ℕ} (o e : List ℕ) → pv_feed a m n p o e ≡ returned 0 (more_numbers t s m' n') (b, q) → PvOffered a m n p [] s b m' n'
    then : {a p b q c : List ℕ} {m n t s l i m' n' u v w : ℕ} {k : Kind} {fs : List (Handed Kind)} (o e : List ℕ)
        → pv_feed a m n p o e ≡ returned 0 (frame_numbers l t s i k m' n') (b, q) → PvOffered b m' n' (drop t p) fs u c v w
        → PvOffered a m n p (handed_out i k l q ∷ fs) (s + u) c v w

  -- Piece after piece, each fed until More.
  pub data PvOffers : List ℕ → ℕ → ℕ → List (List ℕ) → List (Handed Kind) → ℕ → List ℕ → ℕ → ℕ → Type 0 where
    end : {a : List ℕ} {m n : ℕ} → PvOffers a m n [] [] 0 a m n
    piece : {a b c p : List ℕ} {ps : List (List ℕ)} {fs gs : List (Handed Kind)} {m n s m' n' u v w : ℕ}
        → PvOffered a m n p fs s b m' n' → PvOffers b m' n' ps gs u c v w → PvOffers a m n (p ∷ ps) (fs ++ gs) (s + u) c v w

  -- Any calls from fresh on that return 0, on whatever pieces. In order: the bytes taken, the frames found, the total skipped, the held area, the held count and the number of bytes taken now.
  pub data PvCalls : List ℕ → List (Handed Kind) → ℕ → List ℕ → ℕ → ℕ → Type 0 where
    fresh : (a : List ℕ) → PvCalls [] [] 0 a 0 0
    more : {s a b q : List ℕ} {fs : List (Handed Kind)} {z m n t j m' n' : ℕ} (p o e : List ℕ)
        → PvCalls s fs z a m n → pv_feed a m n p o e ≡ returned 0 (more_numbers t j m' n') (b, q) → PvCalls (s ++ take t p) fs (z + j) b m' n'
    frame : {s a b q : List ℕ} {fs : List (Handed Kind)} {z m n l t j i m' n' : ℕ} (k : Kind) (p o e : List ℕ)
        → PvCalls s fs z a m n → pv_feed a m n p o e ≡ returned 0 (frame_numbers l t j i k m' n') (b, q)
        → PvCalls (s ++ take t p) (fs ++ (handed_out i k l q ∷ [])) (z + j) b m' n'
