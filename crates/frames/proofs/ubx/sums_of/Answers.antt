-- The bytes lie behind the seam of held bytes and piece, or from before it on. Assumes nothing.
use mathlib.Core.Path.{◌∙◌, ap}
use native.Mathlib.Omega.{arith}
use Rattle.frames.specs.Ubx.{sums}
use Rattle.frames.proofs.SeamLaws.{part_right}
use Rattle.frames.proofs.SumsLaws.{sums_across}
use Rattle.frames.proofs.ubx.sums_of.Goals as goal

pub returns-then-h-i : goal.returns-then-h-i
returns-then-h-i c = let a = c.args in c.sums_from.ensures.0 ∙ ap sums (part_right a.held.now a.piece.now a.i a.n (omega arith))

pub returns : goal.returns
returns c =
    let a = c.args in
    c.sums_from-3.ensures.0 ∙ sums_across a.held.now a.piece.now a.i a.n _ (omega arith) c.min-m.ensures _ c.sums_from-2.ensures.0
