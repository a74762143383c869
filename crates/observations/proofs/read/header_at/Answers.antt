-- Each field is read, and its number fits. Assumes nothing.
use mathlib.Core.Path.{sym}
use native.Mathlib.Omega.{arith}
use Rattle.bits.proofs.ReadLaws.{taken}
use Rattle.observations.proofs.FrontLaws.{front_begun}
use Rattle.observations.proofs.read.header_at.Goals as goal

pub overflow_cast-header : goal.overflow_cast-header
overflow_cast-header c = omega (arith, (taken _ _ 12 (sym c.in_ok-station.ensures)).0)

pub overflow_cast-header-2 : goal.overflow_cast-header-2
overflow_cast-header-2 c = omega (arith, (taken _ _ 30 (sym c.in_ok-epoch.ensures)).0)

pub overflow_cast-header-3 : goal.overflow_cast-header-3
overflow_cast-header-3 c = omega (arith, (taken _ _ 1 (sym c.in_ok-synchronous.ensures)).0)

pub overflow_cast-header-4 : goal.overflow_cast-header-4
overflow_cast-header-4 c = omega (arith, (taken _ _ 1 (sym c.in_ok-smoothing.ensures)).0)

pub overflow_cast-header-5 : goal.overflow_cast-header-5
overflow_cast-header-5 c = omega (arith, (taken _ _ 3 (sym c.in_ok-interval.ensures)).0)

pub returns : goal.returns
returns c =
    let f =
    front_begun _ (sym c.requires) (sym c.in_ok-station.ensures) (sym c.in_ok-epoch.ensures) (sym c.in_ok-synchronous.ensures) (sym c.in_ok-count.ensures)
    (sym c.in_ok-smoothing.ensures) (sym c.in_ok-interval.ensures) in
    (f.0, (f.1, f.2))
