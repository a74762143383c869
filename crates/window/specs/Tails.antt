-- The checksums of the tails of a list. Assumes nothing.
use Rattle.std.specs.Prelude.{cond, List, [], ◌∷◌, ℕ, length, ltb}
use Rattle.bits.specs.Crc.{crc}
use Rattle.bits.specs.Onto.{onto}

-- the checksum of the whole list, of all but its first byte, and so on down to none
unfoldable pub tails : List ℕ → List ℕ
tails [] = crc [] ∷ []
tails (b ∷ s) = crc (b ∷ s) ∷ tails s

-- the area d with the tails of s over its front, if there is room for them; else as it was
unfoldable pub stored : List ℕ → List ℕ → List ℕ
stored s d = cond (ltb (length s) (length d)) (onto (tails s) d) d
