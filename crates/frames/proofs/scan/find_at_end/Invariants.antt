-- The loop has skipped the bytes up to place i. Assumes nothing.
use Prim.Native.Nat.{◌-◌}
use lib.ListN.{length}
use Rattle.frames.specs.Modes.{framing_of}
use Rattle.frames.specs.Steps.{number_of}
use Rattle.frames.proofs.EndLaws.{Past}
use Rattle.frames.proofs.scan.find_at_end.Given as goal

abbrev pub invariant-loop-i : goal.invariant-loop-i
invariant-loop-i l = Past (framing_of (number_of l.mode)) l.held l.i

abbrev pub decreases-loop-i : goal.decreases-loop-i
decreases-loop-i l = length l.held - l.i
