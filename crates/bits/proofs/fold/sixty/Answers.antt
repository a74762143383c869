-- The shifts as they are defined. Assumes nothing.
use mathlib.Core.Path.{refl}
use Rattle.bits.specs.FoldSteps.{sixty}
use Rattle.bits.proofs.fold.sixty.Goals as goal

pub returns : goal.returns
unfolding sixty
returns c = refl
