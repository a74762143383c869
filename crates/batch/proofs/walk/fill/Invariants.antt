-- The first k frames are filled in. Assumes nothing.
use mathlib.Core.List.{◌++◌}
use Prim.Native.Nat.{◌+◌, ◌≤◌}
use lib.ListN.{length}
use Rattle.batch.proofs.FillLaws.{Filled}
use Rattle.batch.proofs.walk.fill.Given as goal

abbrev pub invariant-loop-k : goal.invariant-loop-k
invariant-loop-k l = Filled (length l.held) (length l.held + length l.piece) (l.held ++ l.piece) l.starts l.lengths l.initial.seam l.initial.kinds l.k l.seam l.kinds × (l.k ≤ length l.starts)
