-- The bias has the raw number. Assumes nothing.
use mathlib.Core.Path.{ap, ◌∙◌}
use mir.Syntax.{w16}
use mir.ValLaws.{to_z-of_z}
use Rattle.messages.specs.Metres.{metres1230}
use Rattle.peerivolt.proofs.biases.pv_1230_metres.Goals as goal

pub returns : goal.returns
returns c = c.metres.ensures ∙ ap metres1230 (to_z-of_z w16 c.args.raw c.ranges.raw)
