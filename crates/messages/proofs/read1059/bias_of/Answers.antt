-- `messages::read1059::bias_of` meets its contract. The number itself, or below zero its complement. Assumes nothing.
use mathlib.Core.Path.{refl, ◌∙◌}
use Prim.Native.Nat.{◌-◌}
use native.Mathlib.Omega.{arith}
use mir.Syntax.{w16}
use mir.ValLaws.{to_z_pos}
use Rattle.bits.proofs.SignedLaws.{twos_low, twos_high}
use Rattle.messages.proofs.I16Laws.{minus_one_16}
use Rattle.messages.proofs.read1059.bias_of.Goals as goal

pub returns-then-number-lt8192 : goal.returns-then-number-lt8192
returns-then-number-lt8192 c = to_z_pos w16 _ (omega arith) ∙ twos_low 14 _ (omega arith)

pub overflow_sub-result-2 : goal.overflow_sub-result-2
overflow_sub-result-2 c = (minus_one_16 (16383 - c.args.number) (omega arith)).0

pub returns : goal.returns
returns c =
    (minus_one_16 (16383 - c.args.number) (omega arith)).1
    ∙ twos_high 14 c.args.number 8192 refl refl (omega arith) (omega arith)
