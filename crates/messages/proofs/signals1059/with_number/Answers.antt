-- `messages::signals1059::with_number` meets its contract: the bit of the number is set, and no other changes. Assumes nothing.
use mathlib.Core.Path.{ap, ◌∙◌}
use Prim.Native.Nat.{ℕ, ◌^◌}
use native.Mathlib.Nat.{one-mul}
use native.Mathlib.Omega.{arith}
use lib.Bits.{bit_or}
use lib.Pow.{shl_exact}
use Rattle.messages.specs.StepsTable.{in_mask}
use Rattle.messages.proofs.PairLaws.{one_more_bit}
use Rattle.messages.proofs.signals1059.with_number.Goals as goal

pub returns : goal.returns
returns c n =
    let k = c.args.number in
    ap (λ (x : ℕ). in_mask (bit_or c.args.mask x) n) (shl_exact {a = 1} 1 k 32 (omega arith) (omega (arith, c.requires)) ∙ one-mul (2 ^ k))
    ∙ one_more_bit c.args.mask k n c.requires
