-- Each answer is the one that the limits, the range and the place ask for. Assumes nothing.
use mathlib.Core.Path.{sym, ap, ◌∙◌}
use native.Mathlib.Omega.{arith}
use mir.Syntax.{w64}
use mir.ValLaws.{to_z-of_z}
use Rattle.bits.specs.Signed.{fits_signmag, signmag_bits}
use Rattle.bits.specs.Steps.{put_where_room}
use Rattle.bits.proofs.LimitLaws.{kept}
use Rattle.bits.proofs.RefusalLaws.{passed_on_with}
use Rattle.bits.proofs.WriteLaws.{write_refused, write_range, write_where_room}
use Rattle.bits.proofs.field.write_signmag.Goals as goal

pub returns-in_err-within_limits : goal.returns-in_err-within_limits
returns-in_err-within_limits c =
    passed_on_with (λ q. q) _ _ _ c.from_residual.ensures.1
    ∙ write_refused _ _ _ _ _ (sym c.in_err-within_limits.ensures)

pub fits_signmag-requires : goal.fits_signmag-requires
fits_signmag-requires c = omega (arith, kept _ _ (sym c.in_ok-within_limits.ensures))

pub returns-then-not-fits_signmag : goal.returns-then-not-fits_signmag
returns-then-not-fits_signmag c =
    write_range _ _ _ _ _ (sym c.in_ok-within_limits.ensures)
    (ap (fits_signmag _) (sym (to_z-of_z w64 c.args.value c.ranges.value)) ∙ sym c.fits_signmag.ensures ∙ c.if-not-fits_signmag.true)

pub signmag_bits-requires : goal.signmag_bits-requires
signmag_bits-requires c =
    let f = kept _ _ (sym c.in_ok-within_limits.ensures) in
    (f.1, f.2, sym c.fits_signmag.ensures ∙ c.if-not-fits_signmag.false)

pub place-requires : goal.place-requires
place-requires c =
    let f = kept _ _ (sym c.in_ok-within_limits.ensures) in
    (f.1, f.2, f.0)

pub returns : goal.returns
returns c =
    c.place.ensures
    ∙ ap (put_where_room _ _ _) (c.signmag_bits.ensures ∙ ap (signmag_bits _) (to_z-of_z w64 c.args.value c.ranges.value))
    ∙ write_where_room _ _ _ _ _ (sym c.in_ok-within_limits.ensures)
    (ap (fits_signmag _) (sym (to_z-of_z w64 c.args.value c.ranges.value)) ∙ sym c.fits_signmag.ensures ∙ c.if-not-fits_signmag.false)
