-- The bytes start behind the seam of held bytes and piece, or before it. Assumes nothing.
use mathlib.Core.Path.{ap, ◌∙◌}
use Prim.Native.Nat.{◌+◌, ◌-◌}
use native.Mathlib.Omega.{arith}
use lib.ListN.{take}
use Rattle.bits.specs.Onto.{over}
use Rattle.batch.proofs.ListLaws.{early, late}
use Rattle.batch.proofs.walk.copy_early.Goals as goal

pub returns-then-h-i : goal.returns-then-h-i
returns-then-h-i c = let a = c.args in late a.held.now a.piece.now a.seam.now a.i a.n (omega arith)

pub returns : goal.returns
returns c =
    let a = c.args in
    let m = c.min-m.result in
    c.put_at-2.ensures
    ∙ ap (over (a.i + m) (take (a.n - m - 0) a.piece.now)) c.put_at.ensures
    ∙ early a.held.now a.piece.now a.seam.now a.i a.n m (omega arith) (omega arith) c.min-m.ensures
