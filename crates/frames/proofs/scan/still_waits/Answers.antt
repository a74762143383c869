-- The length that the first three bytes claim says that the piece ends too soon. Assumes nothing.
use native.Mathlib.Omega.{arith}
use borrow.Author.Tests.{ltb-true}
use Rattle.frames.proofs.CandidateLaws.{never, front_cut}
use Rattle.frames.proofs.scan.still_waits.Goals as goal

pub returns-then-held-lt3 : goal.returns-then-held-lt3
returns-then-held-lt3 c = never

pub returns-then-held : goal.returns-then-held
returns-then-held c = never

pub returns : goal.returns
returns c =
    let a = c.args in
    λ e. front_cut a.held.now a.piece.now _ (omega arith) c.if-held.false c.data_length.ensures.0 (ltb-true _ _ e)
