-- Either all observations are there, or the first that is not is read and is cut. Assumes nothing.
use mathlib.Core.Path.{sym, ◌∙◌}
use native.Mathlib.Omega.{arith}
use Rattle.observations.proofs.ReadLaws.{front_passed, read_within, rows_cut}
use Rattle.observations.proofs.read.extent.Goals as goal

pub returns-in_err-row_at : goal.returns-in_err-row_at
returns-in_err-row_at c =
    let b = c.in_ok-header.ensures.1 in
    front_passed _ _ _ c.from_residual-in_err-row_at.ensures.1
    (c.in_ok-header.ensures.0 ∙ rows_cut _ c.requires _ _ _ (omega (arith, b.1, c.if-there-count.true)) (omega (arith, b.1)) (sym c.in_err-row_at.ensures))

pub returns-in_ok-row_at : goal.returns-in_ok-row_at
returns-in_ok-row_at c =
    let h = c.in_ok-header.ensures.1 in
    let l = read_within _ c.requires _ (sym c.in_ok-row_at.ensures) in
    absurd (omega (arith, h.1, l))
