-- The check of the bytes from there on, which are the piece's. Assumes nothing.
use native.Mathlib.Omega.{arith}
use Rattle.frames.specs.Steps.{number_of}
use Rattle.frames.proofs.ListLaws.{stands_here}
use Rattle.frames.proofs.list.frame_here.Goals as goal

pub returns-in-Ok : goal.returns-in-Ok
returns-in-Ok c =
    let a = c.args in
    stands_here (number_of a.mode) a.held.now a.piece.now a.i (omega arith) (omega arith) c.check.result c.check.ensures _ c.in-Ok.is
