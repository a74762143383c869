-- The whole-stream scan, one frame at a time: where the next one stands. Assumes nothing.
use Rattle.std.specs.Prelude.{◌≡◌, List, [], ◌∷◌, ◌++◌, ℕ, ◌+◌, min, length, take, drop}
use Rattle.bits.specs.Told.{Told, Accepted}
use Rattle.frames.specs.Scan.{Item, Skipped, Framed, Placed}
use Rattle.frames.specs.Framing.{Framing, decide}
use Rattle.frames.specs.Feed as first
use Rattle.frames.specs.Feed.{next}

-- Frame: a frame's place and its length. Held: the place from which on the bytes are held.
pub data Place : Type 0 where
  Frame : (place length : ℕ) → Place
  Held : (place : ℕ) → Place

-- what comes next in bytes of which the first stands at place n: each item skipped is one byte
abbrev pub place_of : {W K : Type 0} → ℕ → first.Next W K → Place
place_of n (first.Held is h) = Held (n + length is)
place_of n (first.Found is k f h) = Frame (n + length is) (length f)

-- The next frame of s from a place on. At the end of s, and at any place past it, nothing is left: held from the end on.
unfoldable pub next_from : {W K : Type 0} → Framing W K → List ℕ → ℕ → Told Place
next_from F s from = Accepted (place_of (min from (length s)) (next (decide F) (drop from s)))

-- the bytes of s that are meant: those of the frame, or those held
abbrev pub cut : List ℕ → Place → List ℕ
cut s (Frame p n) = take n (drop p s)
cut s (Held p) = drop p s

-- an item that stands at place n, if it is a frame
abbrev pub frame_at : {W K : Type 0} → ℕ → Item W K → List Place
frame_at n (Skipped w x) = []
frame_at n (Framed k f) = Frame n (length f) ∷ []

-- the frames among items that stand at places
abbrev pub frames_at : {W K : Type 0} → List (Placed W K) → List Place
frames_at [] = []
frames_at (i ∷ is) = frame_at i.place i.item ++ frames_at is

module _ {W K : Type 0} (F : Framing W K) (s : List ℕ) where
  -- Call after call, each from behind the frame before. In order: the place to start from, the frames found, the place from which on the bytes are held.
  pub data Walked : ℕ → List Place → ℕ → Type 0 where
    last : {from p : ℕ} → next_from F s from ≡ Accepted (Held p) → Walked from [] p
    then : {from p n m : ℕ} {fs : List Place} → next_from F s from ≡ Accepted (Frame p n) → Walked (p + n) fs m → Walked from (Frame p n ∷ fs) m
