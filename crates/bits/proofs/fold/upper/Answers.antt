-- The shifts as they are defined. Assumes nothing.
use mathlib.Core.Path.{refl}
use Rattle.bits.specs.FoldSteps.{upper}
use Rattle.bits.proofs.fold.upper.Goals as goal

pub returns : goal.returns
unfolding upper
returns c = refl
