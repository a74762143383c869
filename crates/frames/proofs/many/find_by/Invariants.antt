-- The loop has come to place i, the bytes up to place end are taken, and windows that begin at or before place i are at hand. Assumes nothing.
use mathlib.Core.Path.{◌≡◌}
use mathlib.Core.List.{◌++◌}
use Prim.Native.Nat.{◌+◌, ◌-◌, ◌≤◌}
use lib.ListN.{length}
use Rattle.frames.specs.Modes.{framing_of}
use Rattle.frames.specs.Steps.{starts_in, Ready}
use Rattle.frames.proofs.ModeLaws.{lawful}
use Rattle.frames.proofs.StartLaws.{mode_starts}
use Rattle.frames.proofs.FindLaws.{Came}
use Rattle.frames.proofs.many.find_by.Given as goal

abbrev pub invariant-loop-i : goal.invariant-loop-i
invariant-loop-i l =
    Came (framing_of 1) (lawful 1) (starts_in 1) (mode_starts 1) l.held l.piece l.i l.end × (l.at.base ≤ l.i) × (l.at.ubx_base ≤ l.i) × Ready (l.held ++ l.piece) l.sums l.runs l.at.base l.at.stop l.at.ubx_base l.at.ubx_stop × (length l.runs ≡ length l.initial.runs)

abbrev pub decreases-loop-i : goal.decreases-loop-i
decreases-loop-i l = length l.held + length l.piece - l.i
