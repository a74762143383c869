-- The low bits, and what the bits above them add. Assumes nothing.
use Rattle.window.proofs.HalfLaws.{by_halves}
use Rattle.window.proofs.low.Goals as goal

pub returns : goal.returns
returns c = by_halves _ _ _ c.upper.ensures c.lower.ensures
