-- The raw number is measured, and the answer goes into the extra area. Assumes nothing.
use mathlib.Core.Path.{sym, ap, subst, ◌∙◌}
use Rattle.observations.specs.Measured.{phase_of, IsNumber}
use Rattle.observations.proofs.PhaseLaws.{same_32}
use Rattle.observations.proofs.MeasuredLaws.{phase_is}
use Rattle.peerivolt.specs.Extra.{numbers}
use Rattle.peerivolt.specs.Message1001.{measured_values}
use Rattle.peerivolt.proofs.AnswerLaws.{not_read, found}
use Rattle.peerivolt.proofs.message_1001.pv_1001_phase.Goals as goal

pub returns-then-extra-ne8 : goal.returns-then-extra-ne8
returns-then-extra-ne8 c = not_read measured_values _ _ c.if-extra-ne8.true

pub numbers_of-requires : goal.numbers_of-requires
numbers_of-requires c = subst IsNumber (sym c.phase.ensures) (phase_is _)

pub returns : goal.returns
returns c =
    found measured_values _ c.if-extra-ne8.false (ap (numbers 0) (c.fill.ensures ∙ c.numbers_of.ensures)) (c.phase.ensures ∙ ap phase_of (same_32 c.args.raw c.ranges.raw.sfits))
