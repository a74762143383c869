-- The shifts as they are defined. Assumes nothing.
use mathlib.Core.Path.{refl}
use Rattle.bits.specs.FoldSteps.{far}
use Rattle.bits.proofs.fold.far.Goals as goal

pub returns : goal.returns
unfolding far
returns c = refl
