-- Each field is read, and its number fits. Assumes nothing.
use mathlib.Core.Path.{sym}
use native.Mathlib.Omega.{arith}
use Rattle.bits.proofs.ReadLaws.{taken}
use Rattle.whole.proofs.Front1059.{front_read}
use Rattle.whole.proofs.read1059.header_at.Goals as goal

pub overflow_cast-result : goal.overflow_cast-result
overflow_cast-result c = omega (arith, (taken _ _ 20 (sym c.in_ok-epoch.ensures)).0)

pub overflow_cast-result-2 : goal.overflow_cast-result-2
overflow_cast-result-2 c = omega (arith, (taken _ _ 4 (sym c.in_ok-interval.ensures)).0)

pub overflow_cast-result-3 : goal.overflow_cast-result-3
overflow_cast-result-3 c = omega (arith, (taken _ _ 1 (sym c.in_ok-multiple.ensures)).0)

pub overflow_cast-result-4 : goal.overflow_cast-result-4
overflow_cast-result-4 c = omega (arith, (taken _ _ 4 (sym c.in_ok-iod.ensures)).0)

pub overflow_cast-result-5 : goal.overflow_cast-result-5
overflow_cast-result-5 c = omega (arith, (taken _ _ 16 (sym c.in_ok-provider.ensures)).0)

pub overflow_cast-result-6 : goal.overflow_cast-result-6
overflow_cast-result-6 c = omega (arith, (taken _ _ 4 (sym c.in_ok-solution.ensures)).0)

pub returns : goal.returns
returns c = front_read _ (sym c.requires) (sym c.in_ok-epoch.ensures) (sym c.in_ok-interval.ensures) (sym c.in_ok-multiple.ensures) (sym c.in_ok-iod.ensures) (sym c.in_ok-provider.ensures) (sym c.in_ok-solution.ensures)
