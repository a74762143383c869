-- `messages::read1059::store_biases` meets its contract. The biases are stored one behind the other. Assumes nothing.
use mathlib.Core.Path.{◌≡◌}
use Prim.Native.Nat.{◌-◌}
use lib.ListN.{length}
use Rattle.messages.specs.StepsRead.{many, lists1059, put1059}
use Rattle.messages.specs.StepsRead1059.{bias_at}
use Rattle.messages.proofs.StoreLaws.{Doing}
use Rattle.messages.proofs.read1059.store_biases.Given as goal

abbrev pub invariant-loop : goal.invariant-loop
invariant-loop l =
    (length l.satellites ≡ length l.initial.satellites) × (length l.signals ≡ length l.initial.satellites) × (length l.biases ≡ length l.initial.satellites)
    × Doing put1059 l.first (length l.initial.satellites) (many (bias_at l.bytes l.satellite) l.n l.start) (lists1059 l.initial.satellites l.initial.signals l.initial.biases) l.i (many (bias_at l.bytes l.satellite) (l.n - l.counter) l.at) (lists1059 l.satellites l.signals l.biases)
