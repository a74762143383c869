-- `messages::write1230::first_unknown` meets its contract. The loop's invariant: the mask has each signal before `i`. Assumes nothing.
use mathlib.Core.Path.{◌≡◌}
use lib.ListN.{drop}
use Rattle.formats.specs.Written.{first_fault}
use Rattle.messages.specs.Write1230.{fault1230}
use Rattle.messages.proofs.write1230.first_unknown.Given as goal

abbrev pub invariant-loop-i : goal.invariant-loop-i
invariant-loop-i l = first_fault fault1230 0 l.signals ≡ first_fault fault1230 l.i (drop l.i l.signals)
