-- The loop has copied the first k bytes of the part. Assumes nothing.
use mathlib.Core.Path.{◌≡◌}
use lib.ListN.{length}
use lib.Seq.{paste}
use Rattle.batch.proofs.copy.put_at.Given as goal

abbrev pub invariant-loop-k : goal.invariant-loop-k
invariant-loop-k l = (l.out ≡ paste l.initial.out l.i l.part l.k) × (length l.out ≡ length l.initial.out)
