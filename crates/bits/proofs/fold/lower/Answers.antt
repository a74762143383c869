-- The shifts as they are defined. Assumes nothing.
use mathlib.Core.Path.{refl}
use Rattle.bits.specs.FoldSteps.{lower}
use Rattle.bits.proofs.fold.lower.Goals as goal

pub returns : goal.returns
unfolding lower
returns c = refl
