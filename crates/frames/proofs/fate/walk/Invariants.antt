-- From frame to frame the fate of the byte stays, until it is reached or passed. Assumes nothing.
use mathlib.Core.Path.{◌≡◌}
use Prim.Native.Nat.{◌-◌, ◌≤◌}
use lib.ListN.{length}
use Rattle.frames.proofs.FateLaws.{fate_from}
use Rattle.frames.proofs.fate.walk.Given as goal

abbrev pub invariant-loop-start : goal.invariant-loop-start
invariant-loop-start l = (l.from ≤ l.place) × (fate_from l.recording l.place l.from ≡ fate_from l.recording l.place 0)

abbrev pub decreases-loop-start : goal.decreases-loop-start
decreases-loop-start l = length l.recording - l.from
