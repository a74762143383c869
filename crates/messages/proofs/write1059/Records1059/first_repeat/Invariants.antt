-- `messages::write1059::Records1059::first_repeat` meets its contract. The loop's invariant: before `i` nothing repeats, and the words tell the satellites and signals there. Assumes nothing.
use mathlib.Core.Path.{◌≡◌}
use lib.ListN.{length}
use Rattle.messages.proofs.PairLaws.{Looked}
use Rattle.messages.proofs.write1059.Records1059.first_repeat.Given as goal

abbrev pub invariant-loop-i : goal.invariant-loop-i
invariant-loop-i l =
    (length l.seen ≡ 64) × Looked l.self.satellites.now l.self.signals.now l.self.biases.now l.seen l.i
