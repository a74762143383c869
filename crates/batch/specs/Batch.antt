-- All frames of a piece in one call: the first frames of the scan of the held bytes with the piece behind them. Assumes nothing.
use Rattle.std.specs.Prelude.{Bool, cond, not, List, [], ◌∷◌, ◌++◌, map, ℕ, ◌+◌, ◌-◌, ◌^◌, length, take, drop, ltb, eqb}
use Rattle.bits.specs.Told.{Told, Accepted, size, state, room}
use Rattle.bits.specs.Outcome.{Outcome, outcome, refusing}
use Rattle.bits.specs.Onto.{onto, over}
use Rattle.frames.specs.Scan.{Handed, scan, framed}
use Rattle.frames.specs.Framing.{Framing, decide}
use Rattle.frames.specs.Rtcm.{Kind, Rtcm, Ubx}
use Rattle.frames.specs.Call.{Scanner, held_from, onwards}
use Rattle.frames.specs.Listing.{Found, first_of, starts_of, lengths_of}

-- ---- what is taken, and what is then held

-- the bytes taken of a piece of p bytes behind h held: with full lists those before the stop, else all
abbrev pub taken_of : {K : Type 0} → Found K → ℕ → ℕ → ℕ
taken_of f h p = cond f.full (f.stop - h) p

-- what is then held: of the bytes h held before and those taken of the piece p, what stands from the stop on
abbrev pub left_of : {K : Type 0} → Found K → List ℕ → List ℕ → List ℕ
left_of f h p = drop f.stop (h ++ take (taken_of f (length h) (length p)) p)

-- ---- what is written

-- the areas that a call is lent: the held bytes, the seam, and for each frame its start, its length and its kind
pub record Areas : Type 0 where
  pub held : List ℕ
  pub seam : List ℕ
  pub starts : List ℕ
  pub lengths : List ℕ
  pub kinds : List ℕ

abbrev pub areas : List ℕ → List ℕ → List ℕ → List ℕ → List ℕ → Areas
areas held seam starts lengths kinds = record { held = held; seam = seam; starts = starts; lengths = lengths; kinds = kinds }

-- the number of a kind
abbrev pub kind_number : Kind → ℕ
kind_number Rtcm = 0
kind_number Ubx = 1

-- the kinds of frames
abbrev pub kinds_of : List (Handed Kind) → List ℕ
kinds_of fs = map (λ f. kind_number f.kind) fs

-- the seam with a frame written to its own place, if it starts before place h
abbrev pub seam_with : {K : Type 0} → ℕ → Handed K → List ℕ → List ℕ
seam_with h f s = cond (ltb f.place h) (over f.place f.bytes s) s

-- the seam with all frames written that start before place h
abbrev pub seam_of : {K : Type 0} → ℕ → List (Handed K) → List ℕ → List ℕ
seam_of h [] s = s
seam_of h (f ∷ fs) s = seam_of h fs (seam_with h f s)

-- the areas once the bytes g are held and frames are listed of a stream of which the first h bytes were held: later places of the lists stay
abbrev pub listed : ℕ → List ℕ → List (Handed Kind) → Areas → Areas
listed h g fs a =
    areas (onto g a.held) (seam_of h fs a.seam) (onto (starts_of fs) a.starts) (onto (lengths_of fs) a.lengths) (onto (kinds_of fs) a.kinds)

-- ---- the call

-- An accepted call: how many frames are listed, the bytes taken and skipped in this call, whether the lists are full, the stream place of the first byte held before the call, and what the scanner then knows.
pub data AllAnswer : Type 0 where
  Frames : (count taken skipped : ℕ) (full : Bool) (place : ℕ) (left : Scanner) → AllAnswer

-- Skipped are the bytes before the stop that are in no frame.
abbrev pub answer_of : Found Kind → Scanner → List ℕ → List ℕ → AllAnswer
answer_of f x h p =
    let t = taken_of f (length h) (length p) in
    Frames (length f.frames) t (f.stop - framed f.frames) f.full (held_from x) (onwards x t (length (left_of f h p)))

-- an accepted call of the scanner x with the bytes h held and the piece p
abbrev pub called_all : Found Kind → Scanner → List ℕ → List ℕ → Areas → Outcome AllAnswer Areas
called_all f x h p a = outcome (Accepted (answer_of f x h p)) (listed (length h) (left_of f h p) f.frames a)

-- The held bytes of a call; or its refusal, in their order: Size of an area of fixed size; State as in feeding; Size of the piece, of the stream, of lists of unequal length; Room for lists of no place.
abbrev pub held_in : Areas → Scanner → List ℕ → Told (List ℕ)
held_in a x piece =
    cond (not (eqb (length a.held) 1029)) size
    (cond (not (eqb (length a.seam) 2058)) size
    (cond (ltb 1029 x.count) state
    (cond (ltb x.taken x.count) state
    (cond (ltb (2 ^ 48) x.taken) state
    (cond (ltb 1 x.mode) state
    (cond (ltb 65536 (length piece)) size
    (cond (ltb (2 ^ 48) (x.taken + length piece)) size
    (cond (not (eqb (length a.lengths) (length a.starts))) size
    (cond (not (eqb (length a.kinds) (length a.starts))) size
    (cond (eqb (length a.starts) 0) (room 1)
    (Accepted (take x.count a.held))))))))))))

-- A call: a refusal writes nothing; else the first frames of the scan of the held bytes and the piece are listed.
unfoldable pub feed_all_of : {W : Type 0} → Framing W Kind → Areas → Scanner → List ℕ → Outcome AllAnswer Areas
feed_all_of F a x p = refusing a (held_in a x p) (λ h. called_all (first_of (length a.starts) (scan (decide F) (h ++ p))) x h p a)
