-- The loop's invariant: what is left to put are the observations from `i` on. Assumes nothing.
use Prim.Native.Nat.{◌-◌}
use lib.ListN.{length}
use Rattle.formats.specs.Format.{fields_each}
use Rattle.formats.proofs.PutLaws.{Left}
use Rattle.observations.specs.Message1001.{observation1001}
use Rattle.observations.specs.Lists.{lists, rows, rows_from}
use Rattle.observations.specs.Steps.{AllFit}
use Rattle.observations.proofs.write.Columns.put.Given as goal

abbrev pub invariant-loop-i : goal.invariant-loop-i
invariant-loop-i l =
    Left l.initial.bytes 64 (fields_each observation1001 (rows (lists l.self.satellites.now l.self.codes.now l.self.pseudoranges.now l.self.phases.now l.self.locks.now))) l.bytes l.at (fields_each observation1001 (rows_from (lists l.self.satellites.now l.self.codes.now l.self.pseudoranges.now l.self.phases.now l.self.locks.now) l.i (length l.self.satellites.now - l.i)))
    × AllFit (rows_from (lists l.self.satellites.now l.self.codes.now l.self.pseudoranges.now l.self.phases.now l.self.locks.now) l.i (length l.self.satellites.now - l.i))
