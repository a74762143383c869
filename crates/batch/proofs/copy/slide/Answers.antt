-- What is left stands at the front of the area, and what lies behind it stays. Assumes nothing.
use mathlib.Core.Path.{refl, ap, ◌∙◌}
use Prim.Native.Nat.{◌-◌}
use native.Mathlib.Omega.{arith}
use Rattle.bits.specs.Onto.{over}
use Rattle.frames.proofs.SeamLaws.{slide_none, slide_right, slide_both}
use Rattle.batch.proofs.copy.slide.Goals as goal

pub returns-then-i-eq0 : goal.returns-then-i-eq0
returns-then-i-eq0 c =
    let a = c.args in
    (refl, c.put_at.ensures ∙ slide_none a.held.now a.piece.now a.count a.i (omega arith) (omega arith))

pub returns-then-count-i : goal.returns-then-count-i
returns-then-count-i c =
    let a = c.args in
    (refl, c.put_at-then-count-i.ensures ∙ slide_right a.held.now a.piece.now a.count a.i (omega arith) (omega arith))

pub returns : goal.returns
returns c =
    let a = c.args in (
      refl,
      c.put_at-2.ensures
          ∙ ap (over (a.count - a.i) a.piece.now) c.shift.ensures
          ∙ slide_both a.held.now a.piece.now a.count a.i (omega arith) (omega arith),
    )
