-- `messages::write1230::first_repeat` meets its contract. The loop's invariant: no signal before `i` repeats. Assumes nothing.
use mathlib.Core.Path.{◌≡◌}
use mathlib.Core.List.{[]}
use lib.ListN.{drop}
use lib.Dec.{eqb}
use Rattle.messages.specs.Writer.{first_repeat}
use Rattle.messages.proofs.RepeatLaws.{seen_at}
use Rattle.messages.proofs.write1230.first_repeat.Given as goal

abbrev pub invariant-loop-i : goal.invariant-loop-i
invariant-loop-i l = first_repeat eqb 0 [] l.signals ≡ first_repeat eqb l.i (seen_at eqb 0 l.signals l.i) (drop l.i l.signals)
