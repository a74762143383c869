-- Each refusal is a case of the definition; past them the walk tells. Assumes nothing.
use mathlib.Core.Path.{ap, ◌∙◌}
use native.Mathlib.Omega.{arith}
use Rattle.bits.specs.Told.{Accepted}
use Rattle.frames.proofs.FateLaws.{too_long, past_end, has_fate}
use Rattle.frames.proofs.fate.of.Goals as goal

pub returns-then-recording-gt65536 : goal.returns-then-recording-gt65536
returns-then-recording-gt65536 c = too_long _ _ (omega arith)

pub returns-then-recording-place : goal.returns-then-recording-place
returns-then-recording-place c = past_end _ _ (omega arith) (omega arith)

pub returns : goal.returns
returns c = ap Accepted c.walk.ensures ∙ has_fate _ _ (omega arith) (omega arith)
