-- The loop has passed no D3. Assumes nothing.
use mathlib.Core.Path.{◌≡◌}
use mathlib.Core.Bool.{false}
use Prim.Native.Nat.{ℕ, ◌≤◌, ◌<◌}
use lib.ListN.{get_or}
use Rattle.frames.specs.Steps.{starts_rtcm}
use Rattle.frames.proofs.scan.near_d3.Given as goal

abbrev pub invariant-loop-i : goal.invariant-loop-i
invariant-loop-i l = (k : ℕ) → k < l.i → l.from ≤ k → starts_rtcm (get_or l.part k 0) ≡ false
