-- The magnitude, or below zero with the sign in the top bit. Assumes nothing.
use mathlib.Core.Path.{refl, ap, ◌∙◌}
use Prim.Native.Nat.{◌+◌}
use native.Mathlib.Omega.{arith}
use lib.Signed.{mag}
use mir.Syntax.{w64}
use mir.ValLaws.{to_z-of_z}
use borrow.Author.Tests.{ltb-true}
use Rattle.bits.proofs.SignedCode.{below_zero, not_below_zero, mag_small}
use Rattle.bits.proofs.SignedLaws.{signmag_bits_neg, fits_signmag_neg, bits_pos}
use Rattle.bits.proofs.signed.signmag_bits.Goals as goal

pub overflow_add-result : goal.overflow_add-result
overflow_add-result c =
    let s = c.before.before.before in
    omega (arith, c.mag_of-m.ensures ∙ ap mag (to_z-of_z w64 s.args.z s.ranges.z), mag_small s.args.z s.ranges.z)

pub overflow_add-result-then-z-lt0 : goal.overflow_add-result-then-z-lt0
overflow_add-result-then-z-lt0 c =
    let s = c.before.before.before in
    let z = s.args.z in
    let b = below_zero z s.ranges.z c.if-z-lt0.true in
    let f = fits_signmag_neg s.args.width _ _ b.0 z (c.mag_of-m.ensures ∙ ap mag (to_z-of_z w64 z s.ranges.z)) c.half_of-half.ensures.0 b.1 in
    omega (arith, ltb-true (c.mag_of-m.result + 1) c.half_of-half.result (f ∙ s.requires.2))

pub returns-then-z-lt0 : goal.returns-then-z-lt0
returns-then-z-lt0 c =
    let s = c.before.before.before in
    let z = s.args.z in
    let b = below_zero z s.ranges.z c.if-z-lt0.true in
    signmag_bits_neg _ _ _ b.0 z (c.mag_of-m.ensures ∙ ap mag (to_z-of_z w64 z s.ranges.z)) c.half_of-half.ensures.0 b.1

pub returns : goal.returns
returns c =
    let s = c.before.before in
    let z = s.args.z in
    let b = not_below_zero z s.ranges.z c.if-z-lt0.false in
    (bits_pos s.args.width _ _ b.0 z (c.mag_of-m.ensures ∙ ap mag (to_z-of_z w64 z s.ranges.z)) refl b.1).1
