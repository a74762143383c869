-- Nothing is held or taken, and the mode is the scanner's own. Assumes nothing.
use mathlib.Core.Path.{refl}
use Rattle.frames.proofs.scanner.reset.Goals as goal

pub returns : goal.returns
returns c = refl
