-- How a piece is offered to calls that list its frames, in accepted calls as they are made: answers, lent memory and all. Assumes nothing.
use Rattle.std.specs.Prelude.{◌≡◌, true, false, cond, List, [], ◌∷◌, ◌++◌, ℕ, ◌+◌, ◌-◌, take, drop, ltb, eqb}
use Rattle.bits.specs.Told.{Accepted}
use Rattle.bits.specs.Outcome.{outcome}
use Rattle.frames.specs.Scan.{Handed}
use Rattle.frames.specs.Framing.{Framing}
use Rattle.frames.specs.Rtcm.{Kind, Rtcm, Ubx}
use Rattle.frames.specs.Call.{Scanner}
use Rattle.batch.specs.Batch.{Areas, Frames, feed_all_of}

-- the kind that a number stands for
abbrev pub kind_of : ℕ → Kind
kind_of n = cond (eqb n 0) Rtcm Ubx

-- A frame as a caller reads it, whose first held byte stood at stream place i: where it starts before the h bytes that were held it lies in the seam at the same place, else in the piece p.
abbrev pub read_one : ℕ → ℕ → List ℕ → List ℕ → ℕ → ℕ → ℕ → Handed Kind
read_one i h p seam start size kind =
    record { place = i + start; kind = kind_of kind; bytes = cond (ltb start h) (take size (drop start seam)) (take size (drop (start - h) p)) }

-- the frames of three lists, one after the other
abbrev pub read_all : ℕ → ℕ → List ℕ → List ℕ → List ℕ → List ℕ → List ℕ → List (Handed Kind)
read_all i h p seam [] ls ks = []
read_all i h p seam (s ∷ ss) [] ks = []
read_all i h p seam (s ∷ ss) (l ∷ ls) [] = []
read_all i h p seam (s ∷ ss) (l ∷ ls) (k ∷ ks) = read_one i h p seam s l k ∷ read_all i h p seam ss ls ks

-- the n frames of a call, from the areas that it leaves
abbrev pub read_off : ℕ → ℕ → ℕ → List ℕ → Areas → List (Handed Kind)
read_off n i h p b = read_all i h p b.seam (take n b.starts) (take n b.lengths) (take n b.kinds)

module _ {W : Type 0} (F : Framing W Kind) where
  -- One piece, offered again from its first untaken byte as long as the lists are full, each time with lists of some length and some seam. In order: the held area and the scanner before, the piece, the frames read off, the total skipped, the held area and the scanner after.
  pub data Listed : List ℕ → Scanner → List ℕ → List (Handed Kind) → ℕ → List ℕ → Scanner → Type 0 where
    last : (a b : Areas) {p : List ℕ} {x y : Scanner} {n t s i : ℕ}
        → feed_all_of F a x p ≡ outcome (Accepted (Frames n t s false i y)) b → Listed a.held x p (read_off n i x.count p b) s b.held y
    then : (a b : Areas) {p c : List ℕ} {x y z : Scanner} {n t s i u : ℕ} {fs : List (Handed Kind)}
        → feed_all_of F a x p ≡ outcome (Accepted (Frames n t s true i y)) b → Listed b.held y (drop t p) fs u c z
        → Listed a.held x p (read_off n i x.count p b ++ fs) (s + u) c z
