-- The bytes lie behind the seam of held bytes and piece, or from before it on. Assumes nothing.
use mathlib.Core.Path.{ap, ◌∙◌}
use Prim.Native.Nat.{◌-◌}
use native.Mathlib.Omega.{arith}
use lib.ListN.{take}
use Rattle.bits.specs.Onto.{over}
use Rattle.frames.proofs.SeamLaws.{gather_right, gather_across}
use Rattle.frames.proofs.scanner.gather.Goals as goal

pub returns-then-h-i : goal.returns-then-h-i
returns-then-h-i c =
    let a = c.args in
    c.put_at.ensures ∙ gather_right a.held.now a.piece.now a.i a.n a.out.now (omega arith)

pub returns : goal.returns
returns c =
    let a = c.args in
    let m = c.min-m.result in
    c.put_at-3.ensures
    ∙ ap (over m (take (a.n - m - 0) a.piece.now)) c.put_at-2.ensures
    ∙ gather_across a.held.now a.piece.now a.i a.n a.out.now m (omega arith) c.min-m.ensures
