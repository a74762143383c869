-- `messages::write1230::is_in` meets its contract. The loop's invariant: the signal is not before the place. Assumes nothing.
use mathlib.Core.Path.{◌≡◌}
use lib.ListN.{drop}
use Rattle.messages.specs.Write1230.{is_in}
use Rattle.messages.proofs.write1230.is_in.Given as goal

abbrev pub invariant-loop-other : goal.invariant-loop-other
invariant-loop-other l = is_in l.signal l.signals ≡ is_in l.signal (drop l.other-index l.signals)
