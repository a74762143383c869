-- The shifts as they are defined. Assumes nothing.
use mathlib.Core.Path.{refl}
use Rattle.bits.specs.FoldSteps.{near}
use Rattle.bits.proofs.fold.near.Goals as goal

pub returns : goal.returns
unfolding near
returns c = refl
