-- The rows of each edition are its table. Assumes nothing.
use Rattle.messages.specs.Signals1059.{edition1, edition2, signals1059}
use Rattle.messages.proofs.signals1059.Edition.rows.Goals as goal

pub returns-in-First : goal.returns-in-First
unfolding signals1059 edition1
returns-in-First c = rw c.in-First.is

pub returns-in-Second : goal.returns-in-Second
unfolding signals1059 edition2
returns-in-Second c = rw c.in-Second.is
