-- The loop has passed no start byte. Assumes nothing.
use mathlib.Core.Path.{◌≡◌}
use mathlib.Core.Bool.{false}
use Prim.Native.Nat.{ℕ, ◌-◌, ◌≤◌, ◌<◌}
use lib.ListN.{length, get_or}
use Rattle.frames.specs.Steps.{starts_rtcm}
use Rattle.frames.proofs.scan.next_d3.Given as goal

abbrev pub invariant-loop-i : goal.invariant-loop-i
invariant-loop-i l = (l.from ≤ l.i) × (l.i ≤ length l.part) × ((k : ℕ) → k < l.i → l.from ≤ k → starts_rtcm (get_or l.part k 0) ≡ false)

abbrev pub decreases-loop-i : goal.decreases-loop-i
decreases-loop-i l = length l.part - l.i
