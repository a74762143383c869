-- The call of the C surface that lists all frames of a piece. Assumes nothing.
use Rattle.std.specs.Prelude.{cond, List, [], ◌∷◌, ℕ, length, eqb}
use Rattle.bits.specs.Outcome.{Outcome}
use Rattle.batch.specs.Batch.{Areas, AllAnswer, Frames}
use Rattle.peerivolt.specs.Extra.{Returned, if_sized, answered}

-- [0] how many frames, [1] bytes taken and [2] bytes skipped in this call, [3] the held count now, [4] 1 if the lists are full, else 0, [5] the stream place of the first byte held before the call, [6] the bytes taken since fresh, now
abbrev pub all_values : AllAnswer → List ℕ
all_values (Frames count taken skipped full place x) = count ∷ taken ∷ skipped ∷ x.count ∷ cond full 1 0 ∷ place ∷ x.taken ∷ []

-- A call that is lent the areas a, of which the held area must have 1,029 bytes and the seam 2,058, with the outcome w.
unfoldable pub feeds_all : Areas → Outcome AllAnswer Areas → List ℕ → Returned Areas
feeds_all a w e = if_sized (eqb (length a.held) 1029) e a (if_sized (eqb (length a.seam) 2058) e a (answered all_values e a w))
