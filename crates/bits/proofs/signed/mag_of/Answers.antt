-- Each cast is of a number that is not below zero. Assumes nothing.
use lib.Signed.{mag}
use Rattle.bits.proofs.SignedCode.{to_unsigned, mag_small, neg_cast, pos_cast}
use mathlib.Core.Path.{ap}
use lib.IntN.{nat_abs}
use Rattle.bits.proofs.signed.mag_of.Goals as goal

pub overflow_sub-result : goal.overflow_sub-result
overflow_sub-result c = (neg_cast c.args.z c.ranges.z c.if-z-lt0.true).0

pub overflow_cast-result : goal.overflow_cast-result
overflow_cast-result c =
    let z = c.args.z in
    to_unsigned _ (mag z) (neg_cast z c.ranges.z c.if-z-lt0.true).1 (mag_small z c.ranges.z)

pub returns-then-z-lt0 : goal.returns-then-z-lt0
returns-then-z-lt0 c = ap nat_abs (neg_cast c.args.z c.ranges.z c.if-z-lt0.true).1

pub overflow_cast-result-2 : goal.overflow_cast-result-2
overflow_cast-result-2 c =
    let z = c.args.z in
    to_unsigned _ (mag z) (pos_cast z c.ranges.z c.if-z-lt0.false) (mag_small z c.ranges.z)

pub returns : goal.returns
returns c = ap nat_abs (pos_cast c.args.z c.ranges.z c.if-z-lt0.false)
