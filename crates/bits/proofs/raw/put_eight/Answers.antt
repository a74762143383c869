-- Eight stores in a row are a field of 64 bits. Assumes nothing.
use native.Mathlib.Omega.{arith}
use lib.ListN.{length-set}
use Rattle.bits.proofs.EightLaws.{eight_written}
use Rattle.bits.proofs.raw.put_eight.Goals as goal

pub bounds-bytes-i-2 : goal.bounds-bytes-i-2
bounds-bytes-i-2 c = simp length-set (omega arith)

pub bounds-bytes-i-3 : goal.bounds-bytes-i-3
bounds-bytes-i-3 c = simp length-set (omega arith)

pub bounds-bytes-i-4 : goal.bounds-bytes-i-4
bounds-bytes-i-4 c = simp length-set (omega arith)

pub bounds-bytes-i-5 : goal.bounds-bytes-i-5
bounds-bytes-i-5 c = simp length-set (omega arith)

pub bounds-bytes-i-6 : goal.bounds-bytes-i-6
bounds-bytes-i-6 c = simp length-set (omega arith)

pub bounds-bytes-i-7 : goal.bounds-bytes-i-7
bounds-bytes-i-7 c = simp length-set (omega arith)

pub bounds-bytes-i-8 : goal.bounds-bytes-i-8
bounds-bytes-i-8 c = simp length-set (omega arith)

pub shape_of-bytes : goal.shape_of-bytes
shape_of-bytes c = simp length-set

pub returns : goal.returns
returns c = eight_written c.args.bytes.now c.args.i c.args.x (omega arith) c.requires.2
