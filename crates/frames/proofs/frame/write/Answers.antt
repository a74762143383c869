-- The output is written part behind part, and summed where it lies. Assumes nothing.
use mathlib.Core.Path.{ap, ◌∙◌}
use Prim.Native.Nat.{◌+◌}
use native.Mathlib.Omega.{arith}
use lib.ListN.{length}
use Rattle.bits.specs.Told.{Accepted}
use Rattle.bits.specs.Outcome.{outcome}
use Rattle.frames.proofs.WriteLaws.{too_long, no_room, is_framed, sum_below, parts_framed}
use Rattle.frames.proofs.frame.write.Goals as goal

pub returns-then-n-gt1023 : goal.returns-then-n-gt1023
returns-then-n-gt1023 c = too_long _ _ (omega arith)

pub returns-then-out-n : goal.returns-then-out-n
returns-then-out-n c = no_room _ _ (omega arith) (omega arith)

pub put_three-requires-2 : goal.put_three-requires-2
put_three-requires-2 c = (omega arith, sum_below _ _ c.crc24q-sum.ensures)

pub returns : goal.returns
returns c =
    let a = c.args in
    let n = length a.«data».now in
    ap (outcome (Accepted (n + 6)))
    (parts_framed a.«data».now a.out.now _ _ _ _ (omega arith)
    c.put_three.ensures c.put_at.ensures c.crc24q-sum.ensures c.put_three-2.ensures)
    ∙ is_framed a.«data».now a.out.now (omega arith) (omega arith)
