-- Behind the last arm of the `match` the table has no number. Assumes nothing.
use Rattle.crctable.proofs.RowLaws.{none_left}
use Rattle.crctable.proofs.entry.Goals as goal

pub returns-in_default : goal.returns-in_default
returns-in_default c = none_left _ assumption
