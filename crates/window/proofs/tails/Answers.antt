-- The area has no room; or the part is a long one; or the products are taken, and added up. Assumes nothing.
use mathlib.Core.Path.{◌∙◌}
use native.Mathlib.Omega.{arith}
use Rattle.window.specs.Weights.{weights}
use Rattle.window.proofs.FillLaws.{no_room, with_room}
use Rattle.window.proofs.WeightLaws.{weights_are}
use Rattle.window.proofs.SumLaws.{onto_same}
use Rattle.window.proofs.tails.Goals as goal

pub returns-then-out-part : goal.returns-then-out-part
returns-then-out-part c = let a = c.args in no_room a.part.now a.out.now (omega arith)

pub returns-then-part-gt4096 : goal.returns-then-part-gt4096
returns-then-part-gt4096 c = let a = c.args in c.fill.ensures ∙ with_room a.part.now a.out.now (omega arith)

pub products-requires : goal.products-requires
unfolding weights
products-requires c = (omega arith, omega arith, weights_are)

pub returns : goal.returns
returns c = let a = c.args in c.add_up.ensures ∙ onto_same a.part.now a.out.now _ c.products.ensures ∙ with_room a.part.now a.out.now (omega arith)
