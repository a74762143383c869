-- One call of the scanner over any decider, byte by byte. Assumes nothing.
use Rattle.std.specs.Prelude.{List, [], ◌∷◌, ◌++◌, ℕ, suc, take, drop}
use Rattle.frames.specs.Scan.{Decision, Skip, Take, Wait, Item, Skipped}

-- What a list of bytes gives up to its first frame. Held: the items skipped, and the bytes that wait. Found: the items skipped, the frame's kind and bytes, and the bytes behind it.
pub data Next (W K : Type 0) : Type 0 where
  Held : List (Item W K) → List ℕ → Next W K
  Found : List (Item W K) → K → List ℕ → List ℕ → Next W K

-- the item i was skipped before
abbrev pub skipping : {W K : Type 0} → Item W K → Next W K → Next W K
skipping i (Held is h) = Held (i ∷ is) h
skipping i (Found is k f h) = Found (i ∷ is) k f h

-- what was decided at the front of x ∷ xs, where xs gives r
abbrev pub next_step : {W K : Type 0} → Decision W K → ℕ → List ℕ → Next W K → Next W K
next_step (Skip w) x xs r = skipping (Skipped w x) r
next_step (Take k n) x xs r = Found [] k (take n (x ∷ xs)) (drop n (x ∷ xs))
next_step Wait x xs r = Held [] (x ∷ xs)

-- Bytes are skipped up to the first frame, or to where more bytes are awaited.
abbrev pub next : {W K : Type 0} → (List ℕ → Decision W K) → List ℕ → Next W K
next d [] = Held [] []
next d (x ∷ xs) = next_step (d (x ∷ xs)) x xs (next d xs)

-- What a call gives. More: the bytes taken of the piece, the items skipped, and the bytes held then. Frame: the bytes taken, the items skipped, the frame's kind and bytes, and the bytes held then.
pub data Fed (W K : Type 0) : Type 0 where
  More : ℕ → List (Item W K) → List ℕ → Fed W K
  Frame : ℕ → List (Item W K) → K → List ℕ → List ℕ → Fed W K

-- with no byte of the piece left: a frame that is held is handed out, else the answer is More
abbrev pub only : {W K : Type 0} → Next W K → Fed W K
only (Held is h) = More 0 is h
only (Found is k f h) = Frame 0 is k f h

-- one more byte was taken, after the items is were skipped
abbrev pub past : {W K : Type 0} → List (Item W K) → Fed W K → Fed W K
past is (More t js h) = More (suc t) (is ++ js) h
past is (Frame t js k f h) = Frame (suc t) (is ++ js) k f h

-- a frame that is held is handed out, else one more byte is taken behind the bytes that wait
abbrev pub or_take : {W K : Type 0} → Next W K → (List ℕ → Fed W K) → Fed W K
or_take (Held is h) onward = past is (onward h)
or_take (Found is k f h) onward = Frame 0 is k f h

-- A call on the bytes held and a piece: what can be skipped is skipped; while no frame is held, one more byte of the piece is taken.
abbrev pub feed : {W K : Type 0} → (List ℕ → Decision W K) → List ℕ → List ℕ → Fed W K
feed d h [] = only (next d h)
feed d h (x ∷ p) = or_take (next d h) (λ g. feed d (g ++ (x ∷ [])) p)
