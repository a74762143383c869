-- `messages::read1059::measure` meets its contract. What is counted so far, and what is left, are the whole. Assumes nothing.
use mathlib.Core.Path.{◌≡◌}
use Prim.Native.Nat.{◌-◌, ◌*◌, ◌≤◌}
use Rattle.messages.specs.StepsRead.{many, counts}
use Rattle.messages.specs.StepsRead1059.{satellite_at}
use Rattle.messages.proofs.read1059.measure.Given as goal

abbrev pub invariant-loop : goal.invariant-loop
invariant-loop l =
    (l.i ≤ l.counter * 31) × (counts 0 (many (satellite_at l.bytes) l.n l.start) ≡ counts l.i (many (satellite_at l.bytes) (l.n - l.counter) l.at))
