-- The range by the sign and the magnitude. Assumes nothing.
use mathlib.Core.Path.{ap, ◌∙◌}
use native.Mathlib.Omega.{arith}
use lib.Signed.{mag}
use mir.Syntax.{w64}
use mir.ValLaws.{to_z-of_z}
use Rattle.bits.proofs.SignedCode.{below_zero, not_below_zero, mag_small}
use Rattle.bits.proofs.SignedLaws.{fits_signmag_neg, fits_signmag_pos}
use Rattle.bits.proofs.signed.fits_signmag.Goals as goal

pub overflow_add-result : goal.overflow_add-result
overflow_add-result c =
    let s = c.before.before in
    omega (arith, c.mag_of-m.ensures ∙ ap mag (to_z-of_z w64 s.args.z s.ranges.z), mag_small s.args.z s.ranges.z)

pub returns-then-z-lt0 : goal.returns-then-z-lt0
returns-then-z-lt0 c =
    let s = c.before.before.before in
    let z = s.args.z in
    let b = below_zero z s.ranges.z c.if-z-lt0.true in
    fits_signmag_neg _ _ _ b.0 z (c.mag_of-m.ensures ∙ ap mag (to_z-of_z w64 z s.ranges.z)) c.half_of.ensures.0 b.1

pub returns : goal.returns
returns c =
    let s = c.before.before.before in
    let z = s.args.z in
    let b = not_below_zero z s.ranges.z c.if-z-lt0.false in
    fits_signmag_pos _ _ _ b.0 z (c.mag_of-m.ensures ∙ ap mag (to_z-of_z w64 z s.ranges.z)) c.half_of-2.ensures.0 b.1
