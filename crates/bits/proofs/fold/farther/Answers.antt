-- The shifts as they are defined. Assumes nothing.
use mathlib.Core.Path.{refl}
use Rattle.bits.specs.FoldSteps.{farther}
use Rattle.bits.proofs.fold.farther.Goals as goal

pub returns : goal.returns
unfolding farther
returns c = refl
