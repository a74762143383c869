-- `messages::write1059::Records1059::put_satellites` meets its contract. The loop's invariant: what is left to put are the satellites from `a` on. Assumes nothing.
use Prim.Native.Nat.{◌-◌, ◌≤◌}
use Rattle.messages.specs.Records.{records1059}
use Rattle.messages.specs.StepsPen.{drawn}
use Rattle.messages.specs.StepsWrite1059.{satellites_from}
use Rattle.formats.proofs.PutLaws.{Left}
use Rattle.messages.proofs.write1059.Records1059.put_satellites.Given as goal

abbrev pub invariant-loop-a : goal.invariant-loop-a
invariant-loop-a l =
    (l.a ≤ 64)
    × Left l.initial.bytes l.start (satellites_from 0 64 (records1059 l.self.satellites.now l.self.signals.now l.self.biases.now)) (drawn l.bytes l.pen.at l.pen.bits) l.pen.at (satellites_from l.a (64 - l.a) (records1059 l.self.satellites.now l.self.signals.now l.self.biases.now))
