-- The first bad entry, then the filler. Assumes nothing.
use Rattle.std.proofs.Common.{sym, arith, ◌∙◌}
use Rattle.settings.proofs.ReadLaws.{entry_bad, not_filled, is_filled}
use Rattle.settings.proofs.read.judge_entries.Goals as goal

pub returns-in-Some-clause-tells : goal.returns-in-Some-clause-tells
returns-in-Some-clause-tells c = entry_bad c.args.entries.block.now _ c.in-Some.ensures.0 (omega (arith, c.in-Some.ensures.1, c.args.entries.counted))

pub returns-then-not-is_filled-clause-tells : goal.returns-then-not-is_filled-clause-tells
returns-then-not-is_filled-clause-tells c =
    not_filled c.args.entries.block.now (omega (arith, c.in_default.ensures, c.args.entries.counted)) (sym c.is_filled.ensures ∙ c.if-not-is_filled.true)

pub returns-clause-tells : goal.returns-clause-tells
returns-clause-tells c =
    is_filled c.args.entries.block.now (omega (arith, c.in_default.ensures, c.args.entries.counted)) _ _ c.args.entries.counted c.args.entries.of_edition (sym c.is_filled.ensures ∙ c.if-not-is_filled.false)
