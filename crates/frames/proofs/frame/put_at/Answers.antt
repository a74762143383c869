-- What is written once more is what stands there. Assumes nothing.
use mathlib.Core.Path.{ap, ◌∙◌}
use Prim.Native.Nat.{◌+◌, ◌-◌, ◌*◌, ◌/◌}
use native.Mathlib.Omega.{arith}
use lib.ListN.{length, take, drop}
use Rattle.bits.specs.Onto.{over}
use Rattle.frames.proofs.SeamLaws.{over_again}
use Rattle.frames.proofs.frame.put_at.Goals as goal

pub returns : goal.returns
returns c =
    let a = c.args in
    let n = length a.part.now in
    c.put_each-3.ensures
    ∙ ap (over (a.i + (n - 32)) (take (n - (n - 32)) (drop (n - 32) a.part.now))) c.put_each-2.ensures
    ∙ over_again a.part.now a.out.now a.i (n / 32 * 32) (n - 32) (omega arith) (omega arith) (omega arith)
