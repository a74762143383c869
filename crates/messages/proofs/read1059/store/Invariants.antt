-- `messages::read1059::store` meets its contract. The satellites are stored one behind the other. Assumes nothing.
use mathlib.Core.Path.{◌≡◌}
use Prim.Native.Nat.{◌-◌}
use lib.ListN.{length}
use Rattle.messages.specs.StepsRead.{many, lists1059, put1059}
use Rattle.messages.specs.StepsRead1059.{satellite_at}
use Rattle.messages.proofs.StoreLaws.{Doing}
use Rattle.messages.proofs.read1059.store.Given as goal

abbrev pub invariant-loop : goal.invariant-loop
invariant-loop l =
    (length l.satellites ≡ length l.initial.satellites) × (length l.signals ≡ length l.initial.satellites) × (length l.biases ≡ length l.initial.satellites)
    × Doing put1059 0 (length l.initial.satellites) (many (satellite_at l.bytes) l.n l.start) (lists1059 l.initial.satellites l.initial.signals l.initial.biases) l.i (many (satellite_at l.bytes) (l.n - l.counter) l.at) (lists1059 l.satellites l.signals l.biases)
