-- The loop has moved the first k bytes. Assumes nothing.
use mathlib.Core.Path.{◌≡◌, refl, ap, ◌∙◌}
use Prim.Native.Nat.{◌+◌}
use native.Mathlib.Omega.{arith}
use lib.ListN.{get_or, set, length-set}
use Rattle.frames.proofs.SeamLaws.{shift_turn}
use Rattle.frames.proofs.scanner.shift.Goals as goal

pub loop-k-init : goal.loop-k-init
loop-k-init c = (refl, refl)

pub loop-k-preserved : goal.loop-k-preserved
loop-k-preserved c =
    let a = c.args in (
      ap (λ x. set x c.loop-k.k (get_or x (a.i + c.loop-k.k) 0)) c.loop-k.invariant.0 ∙ shift_turn a.held.now a.i c.loop-k.k (omega arith),
      rw length-set c.loop-k.invariant.1,
    )

pub returns : goal.returns
returns c =
    let a = c.args in
    let e : c.loop-k.k ≡ a.n = omega arith in
    c.loop-k.invariant.0 ∙ rw e
