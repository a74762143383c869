-- The loop has come to place i with k frames listed, and windows that begin at or before place i are at hand. Assumes nothing.
use mathlib.Core.Path.{◌≡◌}
use mathlib.Core.List.{◌++◌}
use Prim.Native.Nat.{◌+◌, ◌-◌, ◌≤◌}
use lib.ListN.{length, drop}
use Rattle.frames.specs.Scan.{scan}
use Rattle.frames.specs.Framing.{decide}
use Rattle.frames.specs.Modes.{framing_of}
use Rattle.frames.specs.Steps.{starts_in, Ready}
use Rattle.frames.specs.ListSteps.{list_on}
use Rattle.frames.proofs.ModeLaws.{lawful}
use Rattle.frames.proofs.StartLaws.{mode_starts}
use Rattle.frames.proofs.ListLaws.{Came}
use Rattle.frames.proofs.list_many.list_by.Given as goal

abbrev pub invariant-loop-k : goal.invariant-loop-k
invariant-loop-k l =
    Came (framing_of 1) (lawful 1) (starts_in 1) (mode_starts 1) (l.held ++ l.piece) l.room
    (list_on (l.room - l.initial.k) l.initial.k l.initial.i l.initial.framed (scan (decide (framing_of 1)) (drop l.initial.i (l.held ++ l.piece))).items l.initial.starts l.initial.lengths) (length l.initial.starts) (length l.initial.lengths) l.k l.i l.framed l.starts l.lengths
    × (l.at.base ≤ l.i) × (l.at.ubx_base ≤ l.i) × Ready (l.held ++ l.piece) l.sums l.runs l.at.base l.at.stop l.at.ubx_base l.at.ubx_stop × (length l.runs ≡ length l.initial.runs)

abbrev pub decreases-loop-k : goal.decreases-loop-k
decreases-loop-k l = length l.held + length l.piece - l.i
