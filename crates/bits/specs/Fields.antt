-- A run of fields, one behind the other: what a block or a whole message is made of. Assumes nothing.
use Rattle.std.specs.Prelude.{◌≡◌, List, [], ◌∷◌, ℕ, ◌+◌, ◌^◌, ◌<◌, get_or}
use Rattle.bits.specs.Field.{field, put_field}

-- a field: its width and its number
pub data Field : Type 0 where
  bits : ℕ → ℕ → Field

-- the bits of a run
unfoldable pub total : List Field → ℕ
total [] = 0
total (bits w v ∷ fs) = w + total fs

-- the list with the run written from bit p on
unfoldable pub put_all : List ℕ → ℕ → List Field → List ℕ
put_all s p [] = s
put_all s p (bits w v ∷ fs) = put_all (put_field s p w v) (p + w) fs

-- the run stands in s from bit p on
unfoldable pub Holds : List ℕ → ℕ → List Field → Type 0
Holds s p [] = Unit
Holds s p (bits w v ∷ fs) = (field s p w ≡ v) × Holds s (p + w) fs

-- each number fits its width
unfoldable pub Fit : List Field → Type 0
Fit [] = Unit
Fit (bits w v ∷ fs) = (v < 2 ^ w) × Fit fs

-- each element is a byte
pub record Bytes (s : List ℕ) : Type 0 where
  pub byte : (i : ℕ) → get_or s i 0 < 256
