-- `messages::write1059::Records1059::put_satellite` meets its contract. The loop's invariant: the satellite stands at `i`, and what is left to put are its biases from there on. Assumes nothing.
use mathlib.Core.Path.{◌≡◌}
use Prim.Native.Nat.{◌-◌, ◌≤◌}
use lib.ListN.{length, get_or}
use Rattle.messages.specs.Records.{records1059}
use Rattle.messages.specs.Layout1059.{of_satellite}
use Rattle.messages.specs.StepsPen.{drawn}
use Rattle.messages.specs.StepsWrite1059.{bias_fields}
use Rattle.formats.proofs.PutLaws.{Left}
use Rattle.messages.proofs.RecordLaws.{from1059}
use Rattle.messages.proofs.write1059.Records1059.put_satellite.Given as goal

abbrev pub invariant-loop-i : goal.invariant-loop-i
invariant-loop-i l =
    (l.i ≤ length l.self.satellites.now)
    × (get_or l.self.satellites.now l.i l.a ≡ l.a)
    × Left (drawn l.initial.bytes l.initial.pen.at l.initial.pen.bits) l.initial.pen.at (bias_fields (of_satellite l.a (records1059 l.self.satellites.now l.self.signals.now l.self.biases.now))) (drawn l.bytes l.pen.at l.pen.bits) l.pen.at (bias_fields (of_satellite l.a (from1059 l.self.satellites.now l.self.signals.now l.self.biases.now l.i)))

abbrev pub decreases-loop-i : goal.decreases-loop-i
decreases-loop-i l = length l.self.satellites.now - l.i
