-- The bytes between the first three and the last three. Assumes nothing.
use native.Mathlib.Omega.{arith}
use Rattle.frames.proofs.PartLaws.{inside_few, inside_is}
use Rattle.frames.proofs.frame.data_of.Goals as goal

pub returns-then-n-lt6 : goal.returns-then-n-lt6
returns-then-n-lt6 c = let a = c.args.frame in inside_few a.ref_ptr a.now (omega arith)

pub returns : goal.returns
returns c = let a = c.args.frame in inside_is a.ref_ptr a.now (omega arith)
