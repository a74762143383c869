-- The magnitude, or below zero its complement. Assumes nothing.
use mathlib.Core.Path.{◌≡◌, refl, sym, ap, ◌∙◌}
use Prim.Native.Nat.{◌-◌, ◌^◌}
use native.Mathlib.Omega.{arith}
use lib.Signed.{mag}
use mir.Syntax.{w64}
use mir.ValLaws.{to_z-of_z}
use borrow.Author.Tests.{ltb-true}
use Rattle.bits.proofs.SignedCode.{below_zero, not_below_zero}
use Rattle.bits.proofs.SignedLaws.{fits_twos_lem, twos_bits_neg, bits_pos}
use Rattle.bits.proofs.signed.twos_bits.Goals as goal

pub overflow_sub-result-then-z-lt0 : goal.overflow_sub-result-then-z-lt0
overflow_sub-result-then-z-lt0 c =
    let s = c.before.before.before in
    let z = s.args.z in
    let e : c.mag_of-m.result ≡ mag z = c.mag_of-m.ensures ∙ ap mag (to_z-of_z w64 z s.ranges.z) in
    omega (arith, ltb-true (mag z) (2 ^ (s.args.width - 1)) (sym (fits_twos_lem s.args.width z) ∙ s.requires.2))

pub returns-then-z-lt0 : goal.returns-then-z-lt0
returns-then-z-lt0 c =
    let s = c.before.before.before in
    let z = s.args.z in
    let b = below_zero z s.ranges.z c.if-z-lt0.true in
    twos_bits_neg _ _ _ b.0 z (c.mag_of-m.ensures ∙ ap mag (to_z-of_z w64 z s.ranges.z)) c.half_of-half.ensures.0 b.1 c.half_of-half.ensures.1

pub returns : goal.returns
returns c =
    let s = c.before.before in
    let z = s.args.z in
    let b = not_below_zero z s.ranges.z c.if-z-lt0.false in
    (bits_pos s.args.width _ _ b.0 z (c.mag_of-m.ensures ∙ ap mag (to_z-of_z w64 z s.ranges.z)) refl b.1).0
