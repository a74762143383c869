-- Room where the data ends too early, else the field is put. Assumes nothing.
use mathlib.Core.Path.{ap, ◌∙◌}
use native.Mathlib.Omega.{arith}
use Rattle.bits.specs.Told.{Accepted}
use Rattle.bits.specs.Outcome.{outcome}
use Rattle.bits.proofs.WriteLaws.{no_room, has_room}
use Rattle.bits.proofs.field.place.Goals as goal

pub returns-then-all-width : goal.returns-then-all-width
returns-then-all-width c = no_room _ _ _ _ (omega arith)

pub returns-then-all-width-2 : goal.returns-then-all-width-2
returns-then-all-width-2 c = no_room _ _ _ _ (omega arith)

pub returns : goal.returns
returns c = ap (outcome (Accepted _)) c.put_field.ensures ∙ has_room _ _ _ _ (omega arith)
