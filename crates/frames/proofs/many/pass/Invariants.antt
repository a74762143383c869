-- The loop has come to place i, and the bytes up to place end are taken. Assumes nothing.
use Prim.Native.Nat.{◌+◌, ◌-◌}
use lib.ListN.{length}
use Rattle.frames.specs.Modes.{framing_of}
use Rattle.frames.specs.Steps.{Passes}
use Rattle.frames.proofs.many.pass.Given as goal

abbrev pub invariant-loop-i : goal.invariant-loop-i
invariant-loop-i l =
    Passes (framing_of 0) l.held l.piece l.from l.first l.i l.end

abbrev pub decreases-loop-i : goal.decreases-loop-i
decreases-loop-i l = length l.held + length l.piece - l.i
