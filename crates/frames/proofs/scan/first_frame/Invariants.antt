-- The loop has come to place i, the bytes up to place end are taken, and no more candidates failed than bytes were skipped. Assumes nothing.
use Prim.Native.Nat.{◌+◌, ◌-◌, ◌≤◌}
use lib.ListN.{length}
use Rattle.frames.specs.Modes.{framing_of}
use Rattle.frames.specs.Steps.{starts_in, number_of}
use Rattle.frames.proofs.ModeLaws.{lawful}
use Rattle.frames.proofs.StartLaws.{mode_starts}
use Rattle.frames.proofs.FindLaws.{Came}
use Rattle.frames.proofs.scan.first_frame.Given as goal

abbrev pub invariant-loop-i : goal.invariant-loop-i
invariant-loop-i l = Came (framing_of (number_of l.mode)) (lawful (number_of l.mode)) (starts_in (number_of l.mode)) (mode_starts (number_of l.mode)) l.held l.piece l.i l.end × (l.failed ≤ l.i)

abbrev pub decreases-loop-i : goal.decreases-loop-i
decreases-loop-i l = length l.held + length l.piece - l.i
