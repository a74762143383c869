-- `messages::write1230::Joined::with` meets its contract. The loop's invariant: the signal is not before `i`. Assumes nothing.
use mathlib.Core.Path.{◌≡◌}
use lib.ListN.{drop}
use Rattle.messages.specs.Records.{records1230}
use Rattle.messages.specs.Layout1230.{of_signal}
use Rattle.messages.specs.Write1230.{is_in}
use Rattle.messages.proofs.RecordLaws.{from1230}
use Rattle.messages.proofs.write1230.Joined.with.Given as goal

abbrev pub invariant-loop-i : goal.invariant-loop-i
invariant-loop-i l =
    (is_in l.signal l.signals ≡ is_in l.signal (drop l.i l.signals))
    × (of_signal l.signal (records1230 l.signals l.biases) ≡ of_signal l.signal (from1230 l.signals l.biases l.i))
