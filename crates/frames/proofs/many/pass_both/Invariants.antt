-- The loop has come to place i, and every byte before it is skipped. Assumes nothing.
use Prim.Native.Nat.{◌+◌, ◌-◌}
use lib.ListN.{length}
use Rattle.frames.specs.Modes.{framing_of}
use Rattle.frames.specs.Steps.{Passes}
use Rattle.frames.proofs.many.pass_both.Given as goal

abbrev pub invariant-loop-i : goal.invariant-loop-i
invariant-loop-i l = Passes (framing_of 1) l.held l.piece l.from l.first l.i l.end

abbrev pub decreases-loop-i : goal.decreases-loop-i
decreases-loop-i l = length l.held + length l.piece - l.i
