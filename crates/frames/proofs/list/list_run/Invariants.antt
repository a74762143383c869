-- The loop has come to place i with k frames listed, no earlier than where it began. Assumes nothing.
use mathlib.Core.List.{◌++◌}
use Prim.Native.Nat.{◌-◌, ◌≤◌}
use lib.ListN.{length, drop}
use Rattle.frames.specs.Scan.{scan}
use Rattle.frames.specs.Framing.{decide}
use Rattle.frames.specs.Modes.{framing_of}
use Rattle.frames.specs.Steps.{starts_in, number_of}
use Rattle.frames.specs.ListSteps.{list_on}
use Rattle.frames.proofs.ModeLaws.{lawful}
use Rattle.frames.proofs.StartLaws.{mode_starts}
use Rattle.frames.proofs.ListLaws.{Came}
use Rattle.frames.proofs.list.list_run.Given as goal

abbrev pub invariant-loop-k : goal.invariant-loop-k
invariant-loop-k l =
    Came (framing_of (number_of l.mode)) (lawful (number_of l.mode)) (starts_in (number_of l.mode)) (mode_starts (number_of l.mode)) (l.held ++ l.piece) l.places
    (list_on (l.places - l.initial.k) l.initial.k l.initial.i l.initial.framed (scan (decide (framing_of (number_of l.mode))) (drop l.initial.i (l.held ++ l.piece))).items l.initial.starts l.initial.lengths) (length l.initial.starts) (length l.initial.lengths) l.k l.i l.framed l.starts l.lengths
    × (l.initial.i ≤ l.i)

abbrev pub decreases-loop-k : goal.decreases-loop-k
decreases-loop-k l = l.places - l.k
