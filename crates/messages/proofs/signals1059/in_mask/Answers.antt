-- `messages::signals1059::in_mask` meets its contract. Assumes nothing.
use borrow.Author.Tests.{lt-ltb, le-ltb}
use native.Mathlib.Omega.{arith}
use Rattle.messages.specs.StepsTable.{in_mask}
use Rattle.messages.proofs.signals1059.in_mask.Goals as goal

pub returns-then-number-gt31 : goal.returns-then-number-gt31
unfolding in_mask
returns-then-number-gt31 c = rw (le-ltb c.args.number 32 (omega arith))

pub returns : goal.returns
unfolding in_mask
returns c = rw (lt-ltb c.args.number 32 (omega arith))
