-- The place lies before the seam of held bytes and piece, or behind it. Assumes nothing.
use mathlib.Core.Path.{ap, ◌∙◌}
use Rattle.frames.proofs.SeamLaws.{at_left, at_right}
use Rattle.batch.specs.Steps.{kind_number_at}
use Rattle.batch.proofs.walk.kind_at.Goals as goal

pub returns-then-i-h : goal.returns-then-i-h
returns-then-i-h c = let a = c.args in c.kind_number.ensures ∙ ap kind_number_at (at_left a.held.now a.piece.now _ c.if-i-h.true)

pub returns : goal.returns
returns c = let a = c.args in c.kind_number-2.ensures ∙ ap kind_number_at (at_right a.held.now a.piece.now _ c.if-i-h.false)
