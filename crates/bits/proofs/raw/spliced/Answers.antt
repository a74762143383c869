-- The bits that stood there are taken off, and those of v put in their place; nothing overflows on the way. Assumes nothing.
use native.Mathlib.Omega.{arith}
use Rattle.bits.proofs.SpliceLaws.{splice_code, splice_word}
use Rattle.bits.proofs.raw.spliced.Goals as goal

pub overflow_sub-result : goal.overflow_sub-result
overflow_sub-result c = (splice_code c.args.x c.args.m c.args.j c.args.v (omega arith) (omega arith)).0

pub overflow_add-result : goal.overflow_add-result
overflow_add-result c =
    let a = c.args in
    omega (arith, (splice_code a.x a.m a.j a.v (omega arith) (omega arith)).1, splice_word a.x a.m a.j a.v (omega arith) (omega arith))

pub returns : goal.returns
returns c = (splice_code c.args.x c.args.m c.args.j c.args.v (omega arith) (omega arith)).1
