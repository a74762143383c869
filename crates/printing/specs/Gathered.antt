-- Text that is gathered in an area of 65,536 bytes before it is written. Assumes nothing.
use Rattle.std.specs.Prelude.{cond, List, ℕ, ◌+◌, min, nat_le, length, replicate}
use Rattle.bits.specs.Onto.{onto, over}

-- the area, and how many of its first bytes wait to be written
pub record Gathered : Type 0 where
  pub area : List ℕ
  pub waiting : ℕ

abbrev pub gathered : List ℕ → ℕ → Gathered
gathered a n = record { area = a; waiting = n }

-- Text goes behind what waits. If there is no room for it there, what waits is written first, and the text goes to the front; text longer than the area is written by itself, and nothing waits then.
unfoldable pub add : List ℕ → Gathered → Gathered
add words g =
    cond (nat_le (g.waiting + length words) 65536) (gathered (over g.waiting words g.area) (g.waiting + length words))
    (cond (nat_le (length words) 65536) (gathered (onto words g.area) (length words))
    (gathered g.area 0))

-- so many blanks, at most 64
abbrev pub blank : ℕ → List ℕ
blank n = replicate (min n 64) 32
