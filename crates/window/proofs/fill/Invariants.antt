-- The tails from place k on are stored. Assumes nothing.
use Rattle.window.proofs.FillLaws.{Filling}
use Rattle.window.proofs.fill.Given as goal

abbrev pub invariant-loop-k : goal.invariant-loop-k
invariant-loop-k l = Filling l.part l.initial.out l.out l.k l.weight l.sum
