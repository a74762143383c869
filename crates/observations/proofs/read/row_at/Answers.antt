-- Each field is read, and its number fits. Assumes nothing.
use mathlib.Core.Path.{sym}
use native.Mathlib.Omega.{arith}
use Rattle.bits.proofs.ReadLaws.{taken}
use Rattle.observations.proofs.TakeLaws.{phase_narrow}
use Rattle.observations.proofs.RowLaws.{row_read}
use Rattle.observations.proofs.read.row_at.Goals as goal

pub overflow_cast-seen : goal.overflow_cast-seen
overflow_cast-seen c = omega (arith, (taken _ _ 6 (sym c.in_ok-satellite.ensures)).0)

pub overflow_cast-seen-2 : goal.overflow_cast-seen-2
overflow_cast-seen-2 c = omega (arith, (taken _ _ 1 (sym c.in_ok-code.ensures)).0)

pub overflow_cast-seen-3 : goal.overflow_cast-seen-3
overflow_cast-seen-3 c = omega (arith, (taken _ _ 24 (sym c.in_ok-pseudorange.ensures)).0)

pub overflow_cast-seen-4 : goal.overflow_cast-seen-4
overflow_cast-seen-4 c = phase_narrow _ _ (sym c.in_ok-phase.ensures)

pub overflow_cast-seen-5 : goal.overflow_cast-seen-5
overflow_cast-seen-5 c = omega (arith, (taken _ _ 7 (sym c.in_ok-lock.ensures)).0)

pub returns : goal.returns
returns c =
    row_read _ _ (sym c.in_ok-satellite.ensures) (sym c.in_ok-code.ensures) (sym c.in_ok-pseudorange.ensures) (sym c.in_ok-phase.ensures)
    (sym c.in_ok-lock.ensures)
