-- The loop has come to place i, the bytes up to place end are taken, and a window that begins at or before place i is at hand. Assumes nothing.
use mathlib.Core.Path.{◌≡◌}
use mathlib.Core.List.{◌++◌}
use Prim.Native.Nat.{◌+◌, ◌-◌, ◌≤◌}
use lib.ListN.{length}
use Rattle.frames.specs.Modes.{framing_of}
use Rattle.frames.specs.Steps.{starts_in, Tails}
use Rattle.frames.proofs.ModeLaws.{lawful}
use Rattle.frames.proofs.StartLaws.{mode_starts}
use Rattle.frames.proofs.FindLaws.{Came}
use Rattle.frames.proofs.many.find_rtcm.Given as goal

abbrev pub invariant-loop-i : goal.invariant-loop-i
invariant-loop-i l =
    Came (framing_of 0) (lawful 0) (starts_in 0) (mode_starts 0) l.held l.piece l.i l.end × (l.base ≤ l.i) × Tails (l.held ++ l.piece) l.sums l.base l.stop × (length l.sums ≡ 4097)

abbrev pub decreases-loop-i : goal.decreases-loop-i
decreases-loop-i l = length l.held + length l.piece - l.i
