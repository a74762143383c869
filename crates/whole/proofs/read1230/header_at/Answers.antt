-- Each field is read, and its number fits. Assumes nothing.
use mathlib.Core.Path.{sym}
use native.Mathlib.Omega.{arith}
use Rattle.bits.proofs.ReadLaws.{taken}
use Rattle.whole.proofs.Front1230.{front_read}
use Rattle.whole.proofs.read1230.header_at.Goals as goal

pub overflow_cast-result : goal.overflow_cast-result
overflow_cast-result c = omega (arith, (taken _ _ 12 (sym c.in_ok-station.ensures)).0)

pub overflow_cast-result-2 : goal.overflow_cast-result-2
overflow_cast-result-2 c = omega (arith, (taken _ _ 1 (sym c.in_ok-indicator.ensures)).0)

pub overflow_cast-result-3 : goal.overflow_cast-result-3
overflow_cast-result-3 c = omega (arith, (taken _ _ 3 (sym c.in_ok-reserved.ensures)).0)

pub returns : goal.returns
returns c = front_read _ (sym c.requires) (sym c.in_ok-station.ensures) (sym c.in_ok-indicator.ensures) (sym c.in_ok-reserved.ensures)
