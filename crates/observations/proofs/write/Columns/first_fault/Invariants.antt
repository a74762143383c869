-- The loop's invariant: no observation before `i` has a fault. Assumes nothing.
use mathlib.Core.Path.{◌≡◌}
use Prim.Native.Nat.{◌-◌}
use lib.ListN.{length}
use Rattle.formats.specs.Written.{first_fault}
use Rattle.observations.specs.Lists.{lists, rows, rows_from}
use Rattle.observations.specs.Write1001.{fault1001}
use Rattle.observations.proofs.write.Columns.first_fault.Given as goal

abbrev pub invariant-loop-i : goal.invariant-loop-i
invariant-loop-i l =
    (first_fault fault1001 0 (rows (lists l.self.satellites.now l.self.codes.now l.self.pseudoranges.now l.self.phases.now l.self.locks.now)) ≡ first_fault fault1001 l.i (rows_from (lists l.self.satellites.now l.self.codes.now l.self.pseudoranges.now l.self.phases.now l.self.locks.now) l.i (length l.self.satellites.now - l.i)))
