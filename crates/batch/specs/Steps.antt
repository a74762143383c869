-- What private functions of the code compute. No promise to a caller rests on this file. Assumes nothing.
use Rattle.std.specs.Prelude.{◌≡◌, cond, List, [], ◌∷◌, map, ℕ, ◌+◌, ◌-◌, ◌≤◌, length, get_or, take, drop, ltb, eqb}
use Rattle.bits.specs.Told.{Accepted}
use Rattle.bits.specs.Outcome.{Outcome, outcome}
use Rattle.bits.specs.Onto.{onto, over}
use Rattle.frames.specs.Scan.{framed}
use Rattle.frames.specs.Rtcm.{Kind}
use Rattle.frames.specs.Call.{Scanner, held_from, onwards}
use Rattle.frames.specs.Listing.{Found, starts_of, lengths_of}
use Rattle.frames.specs.declared.list.Listing.{Listing}
use Rattle.batch.specs.Batch.{taken_of, left_of, kinds_of, seam_of, AllAnswer, Frames}

-- the number of a frame's kind, by its first byte
abbrev pub kind_number_at : ℕ → ℕ
kind_number_at x = cond (eqb x 0xB5) 1 0

-- the areas that a walk writes
pub record Lists : Type 0 where
  pub seam : List ℕ
  pub starts : List ℕ
  pub lengths : List ℕ
  pub kinds : List ℕ

abbrev pub lists : List ℕ → List ℕ → List ℕ → List ℕ → Lists
lists seam starts lengths kinds = record { seam = seam; starts = starts; lengths = lengths; kinds = kinds }

-- the sizes of a walk over h bytes held and p of a piece
pub record Fit (h p : ℕ) (a : Lists) : Type 0 where
  pub held : h ≤ 1029
  pub piece : p ≤ 65536
  pub seam : length a.seam ≡ 2058
  pub lengths : length a.lengths ≡ length a.starts
  pub kinds : length a.kinds ≡ length a.starts
  pub some : 1 ≤ length a.starts

-- the kinds by the first bytes of what stands in s at places
abbrev pub kinds_at : List ℕ → List ℕ → List ℕ
kinds_at s is = map (λ i. kind_number_at (get_or s i 0)) is

-- the seam with each part of s that starts before place h written to its own place, by their places and lengths
abbrev pub seam_at : ℕ → List ℕ → List ℕ → List ℕ → List ℕ → List ℕ
seam_at h s [] ns seam = seam
seam_at h s (i ∷ is) [] seam = seam
seam_at h s (i ∷ is) (n ∷ ns) seam = seam_at h s is ns (cond (ltb i h) (over i (take n (drop i s)) seam) seam)

-- parts by their places and lengths: each lies within n bytes, and has from 1 to 1,029
abbrev pub Parts : ℕ → List ℕ → List ℕ → Type 0
Parts n [] ls = Unit {0}
Parts n (i ∷ is) [] = ⊥
Parts n (i ∷ is) (l ∷ ls) = (i + l ≤ n) × (1 ≤ l) × (l ≤ 1029) × Parts n is ls

-- what filling in needs of the frames listed, over h bytes held and p of a piece
pub record Fill (h p : ℕ) (starts lengths seam kinds : List ℕ) : Type 0 where
  pub held : h ≤ 1029
  pub parts : Parts (h + p) starts lengths
  pub same : length lengths ≡ length starts
  pub area : length seam ≡ 2058
  pub room : length starts ≤ length kinds

-- where a walk stops, and whether the lists are full; its frames are in the lists
abbrev pub found_by : Listing → Found Kind
found_by w = record { frames = []; stop = w.stop; full = w.full }

-- the places of a walk lie within the n bytes held and the m bytes of the piece, and what is left has room in an area of so many bytes
pub record Within (area n m : ℕ) (w : Listing) : Type 0 where
  pub inside : w.stop ≤ n + m
  pub counted : w.framed ≤ w.stop
  pub room : n + taken_of (found_by w) n m ≤ w.stop + area

-- a walk w found f, and left the areas a as b
pub record Walks (w : Listing) (f : Found Kind) (h p : ℕ) (a b : Lists) : Type 0 where
  pub count : w.count ≡ length f.frames
  pub stop : w.stop ≡ f.stop
  pub framed : w.framed ≡ framed f.frames
  pub full : w.full ≡ f.full
  pub seam : b.seam ≡ seam_of h f.frames a.seam
  pub starts : b.starts ≡ onto (starts_of f.frames) a.starts
  pub lengths : b.lengths ≡ onto (lengths_of f.frames) a.lengths
  pub kinds : b.kinds ≡ onto (kinds_of f.frames) a.kinds
  pub within : Within 1029 h p w

-- what a walk leads to, with the bytes h held in the area a and the piece p: what is left is held
abbrev pub settled : Listing → Scanner → List ℕ → List ℕ → List ℕ → Outcome AllAnswer (List ℕ)
settled w x h p a =
    let t = taken_of (found_by w) (length h) (length p) in
    outcome (Accepted (Frames w.count t (w.stop - w.framed) w.full (held_from x) (onwards x t (length (left_of (found_by w) h p))))) (onto (left_of (found_by w) h p) a)
