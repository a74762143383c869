-- The shifts as they are defined. Assumes nothing.
use mathlib.Core.Path.{refl}
use Rattle.bits.specs.FoldSteps.{nearer}
use Rattle.bits.proofs.fold.nearer.Goals as goal

pub returns : goal.returns
unfolding nearer
returns c = refl
