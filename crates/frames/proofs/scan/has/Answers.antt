-- The sixteen tests, one after the other. Assumes nothing.
use mathlib.Core.Path.{refl}
use Rattle.frames.specs.Steps.{among}
use Rattle.frames.proofs.scan.has.Goals as goal

pub returns : goal.returns
unfolding among
returns c = refl
