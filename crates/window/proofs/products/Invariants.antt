-- The products of the first k bytes are stored. Assumes nothing.
use Rattle.window.proofs.SumLaws.{Taking}
use Rattle.window.proofs.products.Given as goal

abbrev pub invariant-loop-k : goal.invariant-loop-k
invariant-loop-k l = Taking l.part l.initial.out l.out l.k
