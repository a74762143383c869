-- The loop has passed neither D3 nor B5. Assumes nothing.
use mathlib.Core.Path.{◌≡◌}
use mathlib.Core.Bool.{false}
use Prim.Native.Nat.{ℕ, ◌≤◌, ◌<◌}
use lib.ListN.{get_or}
use Rattle.frames.specs.Steps.{starts_either}
use Rattle.frames.proofs.scan.near_either.Given as goal

abbrev pub invariant-loop-i : goal.invariant-loop-i
invariant-loop-i l = (k : ℕ) → k < l.i → l.from ≤ k → starts_either (get_or l.part k 0) ≡ false
