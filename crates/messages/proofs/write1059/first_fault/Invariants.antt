-- `messages::write1059::first_fault` meets its contract. The loop's invariant: no record before `i` has a fault. Assumes nothing.
use mathlib.Core.Path.{◌≡◌}
use Rattle.formats.specs.Written.{first_fault}
use Rattle.messages.specs.Records.{records1059}
use Rattle.messages.specs.StepsWrite1059.{fault_by}
use Rattle.messages.proofs.RecordLaws.{from1059}
use Rattle.messages.proofs.write1059.first_fault.Given as goal

abbrev pub invariant-loop-i : goal.invariant-loop-i
invariant-loop-i l =
    first_fault (fault_by l.mask) 0 (records1059 l.satellites l.signals l.biases) ≡ first_fault (fault_by l.mask) l.i (from1059 l.satellites l.signals l.biases l.i)
