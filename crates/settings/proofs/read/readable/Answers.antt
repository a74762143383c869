-- A number of no edition is Kind. Assumes nothing.
use Rattle.settings.proofs.ReadLaws.{no_reader, no_edition, not_readable}
use Rattle.settings.proofs.read.readable.Goals as goal

pub returns-in_err-try_from : goal.returns-in_err-try_from
returns-in_err-try_from c =
    not_readable c.args.reader c.args.edition (no_reader c.args.reader c.args.edition c.in_err-try_from.ensures.1) _ _ c.from_residual.ensures.1 c.in_err-try_from.ensures.0

pub returns-in_err-edition : goal.returns-in_err-edition
returns-in_err-edition c =
    not_readable c.args.reader c.args.edition (no_edition c.args.reader c.args.edition c.in_err-edition.ensures.1) _ _ c.from_residual-in_err-edition.ensures.1 c.in_err-edition.ensures.0
