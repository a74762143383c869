-- The sums of the first k bytes and of each fewer are stored. Assumes nothing.
use Rattle.frames.proofs.RunLaws.{Running}
use Rattle.frames.proofs.ubx.runs.Given as goal

abbrev pub invariant-loop-k : goal.invariant-loop-k
invariant-loop-k l = Running l.part l.initial.out l.out l.k l.first l.second
