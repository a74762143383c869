-- The bias block of message 1059 as the standard's table has it, and the records that it stands for. Assumes nothing.
use Rattle.std.specs.Prelude.{List, [], ◌∷◌, map, ℕ, zero, suc, ℤ, eqb}
use Rattle.formats.specs.Format.{Format, unsigned, twos, ◌then◌, counted}
use Rattle.messages.specs.Every.{gather}
use Rattle.messages.specs.Records.{Rec1059, rec1059}
use Rattle.messages.specs.Writer.{keep}

-- ---- the table

-- DF380 signal (5 bits), DF383 bias (14, two's complement)
abbrev pub bias1059 : Format (ℕ × ℤ)
bias1059 = unsigned 5 then twos 14

-- DF068 satellite (6), DF379 number of its biases (5), so many biases
abbrev pub satellite1059 : Format (ℕ × List (ℕ × ℤ))
satellite1059 = unsigned 6 then counted 5 bias1059

-- DF387 number of satellites (6), so many satellites
abbrev pub block1059 : Format (List (ℕ × List (ℕ × ℤ)))
block1059 = counted 6 satellite1059

-- ---- the records of a block

-- a satellite as it stands in a block: its number, and the signal and raw bias of each of its biases
abbrev pub Sat : Type 0
Sat = ℕ × List (ℕ × ℤ)

-- the record of a bias of satellite a; a reserved signal is kept as its number
abbrev pub of_bias : ℕ → ℕ × ℤ → List Rec1059
of_bias a b = rec1059 a b.0 b.1 ∷ []

-- the records of a satellite
abbrev pub of_sat : Sat → List Rec1059
of_sat x = gather (of_bias x.0) x.1

-- the records of a block, in stream order
abbrev pub flat1059 : List Sat → List Rec1059
flat1059 xs = gather of_sat xs

-- ---- the block of records

-- the records of satellite a, in list order
unfoldable pub of_satellite : ℕ → List Rec1059 → List Rec1059
of_satellite a [] = []
of_satellite a (rec1059 b g z ∷ rs) = keep (eqb b a) (rec1059 b g z) (of_satellite a rs)

-- signal and raw bias of a record
abbrev pub bias_of : Rec1059 → ℕ × ℤ
bias_of (rec1059 a g z) = (g, z)

-- satellite a with its records, and behind it others; the others alone where it has none
unfoldable pub with_some : ℕ → List Rec1059 → List Sat → List Sat
with_some a [] xs = xs
with_some a (r ∷ rs) xs = (a, map bias_of (r ∷ rs)) ∷ xs

-- the n satellites from a on that have records, ascending, the records of each in list order
unfoldable pub grouped_from : ℕ → ℕ → List Rec1059 → List Sat
grouped_from a zero rs = []
grouped_from a (suc n) rs = with_some a (of_satellite a rs) (grouped_from (suc a) n rs)

-- all satellites of records
abbrev pub grouped1059 : List Rec1059 → List Sat
grouped1059 rs = grouped_from 0 64 rs
