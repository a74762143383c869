-- The number itself, or below zero what is left without the top bit. Assumes nothing.
use Prim.Native.Nat.{◌-◌}
use mathlib.Core.Path.{◌∙◌}
use native.Mathlib.Omega.{arith}
use mir.Syntax.{w64}
use mir.ValLaws.{to_z_pos}
use Rattle.bits.proofs.SignedCode.{minus_cast}
use Rattle.bits.proofs.SignedLaws.{signmag_low, signmag_high}
use Rattle.bits.proofs.signed.signmag.Goals as goal

pub returns-then-v-half : goal.returns-then-v-half
returns-then-v-half c = to_z_pos w64 _ (omega arith) ∙ signmag_low _ _ (omega arith)

pub overflow_sub-result-2 : goal.overflow_sub-result-2
overflow_sub-result-2 c = (minus_cast (c.args.v - c.half_of-half.result) (omega arith)).0

pub returns : goal.returns
returns c =
    (minus_cast (c.args.v - c.half_of-half.result) (omega arith)).1
    ∙ signmag_high _ _ _ c.half_of-half.ensures.0 (omega arith)
