-- Each answer is the one that the limits, the range and the place ask for. Assumes nothing.
use mathlib.Core.Path.{sym, ◌∙◌}
use native.Mathlib.Omega.{arith}
use Rattle.bits.proofs.LimitLaws.{kept}
use Rattle.bits.proofs.RefusalLaws.{passed_on_with}
use Rattle.bits.proofs.WriteLaws.{write_refused, write_range, write_where_room}
use Rattle.bits.proofs.field.write_unsigned.Goals as goal

pub returns-in_err-within_limits : goal.returns-in_err-within_limits
returns-in_err-within_limits c =
    passed_on_with (λ q. q) _ _ _ c.from_residual.ensures.1
    ∙ write_refused _ _ _ _ _ (sym c.in_err-within_limits.ensures)

pub fits_unsigned-requires : goal.fits_unsigned-requires
fits_unsigned-requires c = omega (arith, kept _ _ (sym c.in_ok-within_limits.ensures))

pub returns-then-not-fits_unsigned : goal.returns-then-not-fits_unsigned
returns-then-not-fits_unsigned c =
    write_range _ _ _ _ _ (sym c.in_ok-within_limits.ensures)
    (sym c.fits_unsigned.ensures ∙ c.if-not-fits_unsigned.true)

pub place-requires : goal.place-requires
place-requires c =
    let f = kept _ _ (sym c.in_ok-within_limits.ensures) in
    (f.1, f.2, f.0)

pub returns : goal.returns
returns c =
    c.place.ensures
    ∙ write_where_room _ _ _ _ _ (sym c.in_ok-within_limits.ensures)
    (sym c.fits_unsigned.ensures ∙ c.if-not-fits_unsigned.false)
