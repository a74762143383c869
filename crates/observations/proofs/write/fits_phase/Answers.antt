-- `observations::write::fits_phase` meets its contract. The two tests are the two ends of the range. Assumes nothing.
use Rattle.observations.proofs.PhaseLaws.{fits_below, fits_else}
use Rattle.observations.proofs.write.fits_phase.Goals as goal

pub returns-then-phase-lt0 : goal.returns-then-phase-lt0
returns-then-phase-lt0 c = fits_below c.args.phase c.ranges.phase c.if-phase-lt0.true

pub returns : goal.returns
returns c = fits_else c.args.phase c.ranges.phase c.if-phase-lt0.false
