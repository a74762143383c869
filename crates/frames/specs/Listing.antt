-- All frames in one walk: the first frames of a scan, for lists of so many places. Assumes nothing.
use Rattle.std.specs.Prelude.{Bool, true, false, cond, List, [], ◌∷◌, ◌++◌, map, ℕ, ◌+◌, min, length, take, leb}
use Rattle.bits.specs.Onto.{onto}
use Rattle.frames.specs.Scan.{Scanned, Handed, scan, bytes_of, handed, framed}
use Rattle.frames.specs.Framing.{decide}
use Rattle.frames.specs.Modes.{framing_of}
use Rattle.frames.specs.declared.list.Listing.{Listing}

-- Frames, whose places are counted from the first byte held; the place where scanning stops; and whether the lists are full.
pub record Found (K : Type 0) : Type 0 where
  pub frames : List (Handed K)
  pub stop : ℕ
  pub full : Bool

-- the place behind the last of the frames, or n where there is none
abbrev pub behind : {K : Type 0} → ℕ → List (Handed K) → ℕ
behind n [] = n
behind n (f ∷ fs) = behind (f.place + length f.bytes) fs

-- Of a scan, for lists of n places. With n frames or more: the first n, and scanning stops behind the last of them. With fewer: all frames, and it stops where the held bytes begin, behind all items.
abbrev pub first_of : {W K : Type 0} → ℕ → Scanned W K → Found K
first_of n r =
    cond (leb n (length (handed 0 r.items)))
    (record { frames = take n (handed 0 r.items); stop = behind 0 (take n (handed 0 r.items)); full = true })
    (record { frames = handed 0 r.items; stop = length (bytes_of r.items); full = false })

-- the places and the lengths of frames
abbrev pub starts_of : {K : Type 0} → List (Handed K) → List ℕ
starts_of fs = map (λ f. f.place) fs

abbrev pub lengths_of : {K : Type 0} → List (Handed K) → List ℕ
lengths_of fs = map (λ f. length f.bytes) fs

-- what a listing tells of what was found: how many frames, where scanning stops, the bytes in the frames, and whether the lists are full
abbrev pub listing : {K : Type 0} → Found K → Listing
listing f = record { count = length f.frames; stop = f.stop; framed = framed f.frames; full = f.full }

-- the bytes that a listing looks at: of the held bytes the first 1,029, of the piece the first 65,536
abbrev pub looked_at : List ℕ → List ℕ → List ℕ
looked_at h p = take 1029 h ++ take 65536 p

-- A listing of the bytes held and a piece over two lists, as long as the shorter has places: what it tells, and the lists, whose later places stay.
abbrev pub list_of : ℕ → List ℕ → List ℕ → List ℕ → List ℕ → Listing × List ℕ × List ℕ
list_of mode h p starts lengths =
    let f = first_of (min (length starts) (length lengths)) (scan (decide (framing_of mode)) (looked_at h p)) in
    (listing f, onto (starts_of f.frames) starts, onto (lengths_of f.frames) lengths)
