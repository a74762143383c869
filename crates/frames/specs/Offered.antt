-- How a stream is offered to the scanner, in accepted calls as they are made: answers, lent memory and all. Assumes nothing.
use Rattle.std.specs.Prelude.{◌≡◌, List, [], ◌∷◌, ◌++◌, ℕ, suc, ◌+◌, ◌≤◌, length, take, drop}
use Rattle.bits.specs.Told.{Accepted}
use Rattle.bits.specs.Outcome.{outcome}
use Rattle.frames.specs.Scan.{Handed, scan, handed, skipped_of}
use Rattle.frames.specs.Framing.{Framing, decide}
use Rattle.frames.specs.Call as call
use Rattle.frames.specs.Call.{Scanner, More, Frame, feed_of}

-- What is to come of it: the whole-stream scan of the stream, whose first byte stands at place n, hands out these frames, skips so many bytes and holds these.
pub record Scans {W K : Type 0} (F : Framing W K) (n : ℕ) (stream : List ℕ) (fs : List (Handed K)) (s : ℕ) (h : List ℕ) : Type 0 where
  pub frames : handed n (scan (decide F) stream).items ≡ fs
  pub skipped : skipped_of (scan (decide F) stream).items ≡ s
  pub held : (scan (decide F) stream).held ≡ h

-- pieces that a call takes: of at most 65,536 bytes each
pub data Pieces : List (List ℕ) → Type 0 where
  none : Pieces []
  one : {p : List ℕ} {ps : List (List ℕ)} → length p ≤ 65536 → Pieces ps → Pieces (p ∷ ps)

-- a frame as a call tells it: at place i, of kind k, the first l bytes of the output
abbrev pub handed_out : {K : Type 0} → ℕ → K → ℕ → List ℕ → Handed K
handed_out i k l q = record { place = i; kind = k; bytes = take l q }

module _ {W K : Type 0} (F : Framing W K) where
  -- One piece, offered again and again from its first untaken byte until the answer is More, each time with some output. In order: the held area and the scanner before, the piece, the frames found, the total skipped, the held area and the scanner after.
  pub data Offered : List ℕ → Scanner → List ℕ → List (Handed K) → ℕ → List ℕ → Scanner → Type 0 where
    last : {a p b q : List ℕ} {x y : Scanner} {t s : ℕ} (o : List ℕ) → feed_of F a x p o ≡ outcome (Accepted (More t s y)) (b, q) → Offered a x p [] s b y
    then : {a p b q c : List ℕ} {x y z : Scanner} {t s l i u : ℕ} {k : K} {fs : List (Handed K)} (o : List ℕ)
        → feed_of F a x p o ≡ outcome (Accepted (Frame l t s i k y)) (b, q) → Offered b y (drop t p) fs u c z → Offered a x p (handed_out i k l q ∷ fs) (s + u) c z

  -- Piece after piece, each offered until More.
  pub data Offers : List ℕ → Scanner → List (List ℕ) → List (Handed K) → ℕ → List ℕ → Scanner → Type 0 where
    end : {a : List ℕ} {x : Scanner} → Offers a x [] [] 0 a x
    piece : {a b c p : List ℕ} {x y z : Scanner} {ps : List (List ℕ)} {fs gs : List (Handed K)} {s u : ℕ}
        → Offered a x p fs s b y → Offers b y ps gs u c z → Offers a x (p ∷ ps) (fs ++ gs) (s + u) c z

  -- Calls that each hand out a frame, on a piece and then on what was not taken of it, each time with some output. In order: the held area and the scanner before, the piece, how many calls.
  pub data Chain : List ℕ → Scanner → List ℕ → ℕ → Type 0 where
    start : {a p : List ℕ} {x : Scanner} → Chain a x p 0
    then : {a p b q : List ℕ} {x y : Scanner} {t s l i n : ℕ} {k : K} (o : List ℕ)
        → feed_of F a x p o ≡ outcome (Accepted (Frame l t s i k y)) (b, q) → Chain b y (drop t p) n → Chain a x p (suc n)

  -- Any accepted calls from a fresh scanner, on whatever pieces. In order: the bytes taken, the frames found, the total skipped, the held area and the scanner now.
  pub data Calls : List ℕ → List (Handed K) → ℕ → List ℕ → Scanner → Type 0 where
    fresh : (a : List ℕ) (mode : ℕ) → Calls [] [] 0 a (call.fresh mode)
    more : {s a b q : List ℕ} {fs : List (Handed K)} {x y : Scanner} {n t j : ℕ} (p o : List ℕ)
        → Calls s fs n a x → feed_of F a x p o ≡ outcome (Accepted (More t j y)) (b, q) → Calls (s ++ take t p) fs (n + j) b y
    frame : {s a b q : List ℕ} {fs : List (Handed K)} {x y : Scanner} {n l t j i : ℕ} {k : K} (p o : List ℕ)
        → Calls s fs n a x → feed_of F a x p o ≡ outcome (Accepted (Frame l t j i k y)) (b, q) → Calls (s ++ take t p) (fs ++ (handed_out i k l q ∷ [])) (n + j) b y
