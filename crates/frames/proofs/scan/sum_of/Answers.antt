-- The bytes lie behind the seam of held bytes and piece, or from before it on. Assumes nothing.
use mathlib.Core.Path.{◌∙◌, ap}
use native.Mathlib.Omega.{arith}
use Rattle.bits.specs.Crc.{crc}
use Rattle.frames.proofs.SeamLaws.{part_right, sum_across}
use Rattle.frames.proofs.scan.sum_of.Goals as goal

pub returns-then-h-i : goal.returns-then-h-i
returns-then-h-i c = let a = c.args in c.crc24q.ensures ∙ ap crc (part_right a.held.now a.piece.now a.i a.n (omega arith))

pub returns : goal.returns
returns c =
    let a = c.args in
    c.crc24q_from.ensures ∙ sum_across a.held.now a.piece.now a.i a.n _ (omega arith) c.min-m.ensures _ c.crc24q-2.ensures
