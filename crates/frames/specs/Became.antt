-- What became of a byte in a scan by any framing: read off the items. Assumes nothing.
use Rattle.std.specs.Prelude.{◌≡◌, cond, List, [], ◌∷◌, ℕ, ◌+◌, ◌-◌, ◌≤◌, ◌<◌, length, drop, ltb, eqb}
use Rattle.frames.specs.Scan.{Decision, Skip, Take, Wait, Item, Skipped, Framed}

-- In: part of the frame of a kind that starts at a place and has so many bytes. Dropped: skipped, for a reason. Waiting: held, from the unfinished candidate at a place on.
pub data Became (W K : Type 0) : Type 0 where
  In : (place : ℕ) (kind : K) (length : ℕ) → Became W K
  Dropped : (why : W) → Became W K
  Waiting : (place : ℕ) → Became W K

-- the byte at place q, where the items stand from place n on: the item in which it lies tells
abbrev pub became_in : {W K : Type 0} → ℕ → List (Item W K) → ℕ → Became W K
became_in n [] q = Waiting n
became_in n (Skipped w x ∷ is) q = cond (eqb q n) (Dropped w) (became_in (n + 1) is q)
became_in n (Framed k f ∷ is) q = cond (ltb q (n + length f)) (In n k (length f)) (became_in (n + length f) is q)

-- what became of the byte at place q is what was decided of the bytes s, which stand from place n on: of those from the frame's start on, from the byte itself on, or from the candidate on
abbrev pub Decided : {W K : Type 0} → (List ℕ → Decision W K) → ℕ → List ℕ → ℕ → Became W K → Type 0
Decided d n s q (In p k l) = (n ≤ p) × (p ≤ q) × (q < p + l) × (d (drop (p - n) s) ≡ Take k l)
Decided d n s q (Dropped w) = d (drop (q - n) s) ≡ Skip w
Decided d n s q (Waiting p) = (n ≤ p) × (p ≤ q) × (d (drop (p - n) s) ≡ Wait)
