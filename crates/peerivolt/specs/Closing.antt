-- The closing call of the C surface. Assumes nothing.
use Rattle.std.specs.Prelude.{List, [], ◌∷◌, ℕ, length, eqb}
use Rattle.bits.specs.Outcome.{Outcome}
use Rattle.frames.specs.Rtcm.{Kind}
use Rattle.frames.specs.Close.{ClosedAnswer, Done, Frame}
use Rattle.peerivolt.specs.Extra.{Returned, if_sized, answered}
use Rattle.peerivolt.specs.Scanner.{kind_number}

-- [0] 0 for Done or 1 for a frame, [1] 0, [2] bytes skipped in this call, [3] the held count now, [4] the frame's length or 0, [5] its stream place or 0, [6] the bytes taken since fresh, now, [7] the frame's kind, or 0
abbrev pub closed_values : ClosedAnswer Kind → List ℕ
closed_values (Done skipped x) = 0 ∷ 0 ∷ skipped ∷ x.count ∷ 0 ∷ 0 ∷ x.taken ∷ 0 ∷ []
closed_values (Frame length skipped place kind x) = 1 ∷ 0 ∷ skipped ∷ x.count ∷ length ∷ place ∷ x.taken ∷ kind_number kind ∷ []

-- A call that is lent the held area a, which must have 1,029 bytes, and the output o, with the outcome w.
unfoldable pub closes : List ℕ → List ℕ → Outcome (ClosedAnswer Kind) (List ℕ × List ℕ) → List ℕ → Returned (List ℕ × List ℕ)
closes a o w e = if_sized (eqb (length a) 1029) e (a, o) (answered closed_values e (a, o) w)
