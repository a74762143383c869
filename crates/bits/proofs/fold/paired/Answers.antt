-- The shifts as they are defined. Assumes nothing.
use mathlib.Core.Path.{refl}
use Rattle.bits.specs.FoldSteps.{paired}
use Rattle.bits.proofs.fold.paired.Goals as goal

pub returns : goal.returns
unfolding paired
returns c = refl
