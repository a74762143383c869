-- The shifts as they are defined. Assumes nothing.
use mathlib.Core.Path.{refl}
use Rattle.bits.specs.FoldSteps.{quotient}
use Rattle.bits.proofs.fold.quotient.Goals as goal

pub returns : goal.returns
unfolding quotient
returns c = refl
