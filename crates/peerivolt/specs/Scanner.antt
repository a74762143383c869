-- The scanner's call of the C surface. Assumes nothing.
use Rattle.std.specs.Prelude.{List, [], ◌∷◌, ℕ, length, eqb}
use Rattle.frames.specs.Rtcm.{Kind, Rtcm, Ubx}
use Rattle.frames.specs.Call.{Scanner, FedAnswer, More, Frame, FedOutcome}
use Rattle.peerivolt.specs.Extra.{Returned, if_sized, answered}

-- the scanner that C gives as three numbers
abbrev pub scanner_of : (count taken mode : ℕ) → Scanner
scanner_of count taken mode = record { count = count; taken = taken; mode = mode }

-- the number of a kind
abbrev pub kind_number : Kind → ℕ
kind_number Rtcm = 0
kind_number Ubx = 1

-- [0] 0 for More or 1 for a frame, [1] bytes taken and [2] bytes skipped in this call, [3] the held count now, [4] the frame's length or 0, [5] its stream place or 0, [6] the bytes taken since fresh, now, [7] the frame's kind, or 0
abbrev pub fed_values : FedAnswer Kind → List ℕ
fed_values (More taken skipped x) = 0 ∷ taken ∷ skipped ∷ x.count ∷ 0 ∷ 0 ∷ x.taken ∷ 0 ∷ []
fed_values (Frame length taken skipped place kind x) = 1 ∷ taken ∷ skipped ∷ x.count ∷ length ∷ place ∷ x.taken ∷ kind_number kind ∷ []

-- A call that is lent the held area a, which must have 1,029 bytes, and the output o, with the outcome w.
unfoldable pub feeds : List ℕ → List ℕ → FedOutcome Kind → List ℕ → Returned (List ℕ × List ℕ)
feeds a o w e = if_sized (eqb (length a) 1029) e (a, o) (answered fed_values e (a, o) w)
