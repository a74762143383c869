-- Nothing is left above the low bits. Assumes nothing.
use Prim.Native.Nat.{◌^◌}
use mathlib.Core.Path.{sym}
use native.Mathlib.Omega.{arith}
use borrow.Author.Tests.{lt-ltb}
use Rattle.bits.proofs.SignedCode.{shr_tells}
use Rattle.bits.proofs.signed.fits_unsigned.Goals as goal

pub returns-then-width-eq64 : goal.returns-then-width-eq64
returns-then-width-eq64 c = rw c.if-width-eq64.true (sym (lt-ltb c.args.v (2 ^ 64) (omega arith)))

pub returns : goal.returns
returns c = shr_tells c.args.v c.args.width
