-- Room carries what the front has more, and any other refusal stays as it is. Assumes nothing.
use Rattle.whole.proofs.BehindLaws.{behind_same}
use Rattle.whole.proofs.behind.behind.Goals as goal

pub returns-in_default : goal.returns-in_default
returns-in_default c = behind_same _ _ c.in_default.not-Room
