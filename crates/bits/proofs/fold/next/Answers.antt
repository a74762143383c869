-- The two halves of the word, each folded by itself. Assumes nothing.
use mathlib.Core.Path.{ap₂}
use lib.Bits.{bit_xor}
use Rattle.bits.specs.FoldSteps.{next}
use Rattle.bits.proofs.fold.next.Goals as goal

pub returns : goal.returns
unfolding next
returns c = ap₂ bit_xor c.upper.ensures c.lower.ensures
