-- The loop has moved the first k bytes. Assumes nothing.
use mathlib.Core.Path.{◌≡◌}
use mathlib.Core.List.{◌++◌}
use lib.ListN.{length, take, drop}
use Rattle.frames.proofs.scanner.shift.Given as goal

abbrev pub invariant-loop-k : goal.invariant-loop-k
invariant-loop-k l = (l.held ≡ take l.k (drop l.i l.initial.held) ++ drop l.k l.initial.held) × (length l.held ≡ length l.initial.held)
