-- The area is not yet full, or just full. Each turn reads a byte or more.
use Rattle.std.proofs.Common.{◌-◌, ◌≤◌}
use Rattle.reading.proofs.load.read_full.Given as goal

abbrev pub invariant-loop-done : goal.invariant-loop-done
invariant-loop-done l = l.done ≤ 65536

abbrev pub decreases-loop-done : goal.decreases-loop-done
decreases-loop-done l = 65536 - l.done
