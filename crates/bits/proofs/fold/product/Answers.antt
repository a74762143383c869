-- The polynomial's terms in pairs, and the two that are left. Assumes nothing.
use mathlib.Core.Path.{ap}
use Prim.Native.Nat.{ℕ}
use lib.Bits.{bit_xor}
use Rattle.bits.specs.FoldSteps.{up, product}
use Rattle.bits.proofs.fold.product.Goals as goal

pub returns : goal.returns
unfolding product
returns c = let q = c.args.q in ap (λ (n : ℕ). bit_xor (bit_xor n (up 14 q)) (up 3 q)) c.paired.ensures
