-- The place value of the top bit, twice of which is the power of the width. Assumes nothing.
use native.Mathlib.Omega.{arith}
use Rattle.bits.proofs.SignedCode.{half_is}
use Rattle.bits.proofs.signed.half_of.Goals as goal

pub returns : goal.returns
returns c = half_is c.args.width (omega arith) (omega arith)
