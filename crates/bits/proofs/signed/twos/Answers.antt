-- The number itself, or below zero its complement. Assumes nothing.
use Prim.Native.Nat.{◌+◌, ◌-◌}
use mathlib.Core.Path.{◌∙◌}
use native.Mathlib.Omega.{arith}
use mir.Syntax.{w64}
use mir.ValLaws.{to_z_pos}
use Rattle.bits.proofs.SignedCode.{minus_one_cast}
use Rattle.bits.proofs.SignedLaws.{twos_low, twos_high}
use Rattle.bits.proofs.signed.twos.Goals as goal

pub returns-then-v-half : goal.returns-then-v-half
returns-then-v-half c = to_z_pos w64 _ (omega arith) ∙ twos_low _ _ (omega arith)

pub overflow_sub-result : goal.overflow_sub-result
overflow_sub-result c =
    let h = c.half_of-half.result in
    (minus_one_cast (h - 1 + h - c.args.v) (omega arith)).0

pub returns : goal.returns
returns c =
    let h = c.half_of-half.result in
    (minus_one_cast (h - 1 + h - c.args.v) (omega arith)).1
    ∙ twos_high _ _ _ c.half_of-half.ensures.0 c.half_of-half.ensures.1 (omega arith) (omega arith)
