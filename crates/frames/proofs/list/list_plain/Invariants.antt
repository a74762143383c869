-- The loop has come to place i with k frames listed, and each candidate that failed had at most 1,029 bytes. Assumes nothing.
use mathlib.Core.List.{◌++◌}
use Prim.Native.Nat.{◌+◌, ◌-◌, ◌*◌, ◌≤◌}
use lib.ListN.{length}
use Rattle.frames.specs.Scan.{scan}
use Rattle.frames.specs.Framing.{decide}
use Rattle.frames.specs.Modes.{framing_of}
use Rattle.frames.specs.Steps.{starts_in, number_of}
use Rattle.frames.specs.ListSteps.{list_on}
use Rattle.frames.proofs.ModeLaws.{lawful}
use Rattle.frames.proofs.StartLaws.{mode_starts}
use Rattle.frames.proofs.ListLaws.{Came}
use Rattle.frames.proofs.list.list_plain.Given as goal

abbrev pub invariant-loop-k : goal.invariant-loop-k
invariant-loop-k l =
    Came (framing_of (number_of l.mode)) (lawful (number_of l.mode)) (starts_in (number_of l.mode)) (mode_starts (number_of l.mode)) (l.held ++ l.piece) l.room
    (list_on l.room 0 0 0 (scan (decide (framing_of (number_of l.mode))) (l.held ++ l.piece)).items l.initial.starts l.initial.lengths) (length l.initial.starts) (length l.initial.lengths) l.k l.i l.framed l.starts l.lengths
    × (l.failed ≤ l.i * 1029)

abbrev pub decreases-loop-k : goal.decreases-loop-k
decreases-loop-k l = length l.held + length l.piece - l.i
