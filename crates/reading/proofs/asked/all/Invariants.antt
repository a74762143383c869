-- The words up to the next one are known, and ask for what was gathered.
use Rattle.reading.proofs.AskedLaws.{Known}
use Rattle.reading.proofs.asked.all.Given as goal

abbrev pub invariant-loop-i : goal.invariant-loop-i
invariant-loop-i g l = Known l.asked l.i
