-- `messages::write1059::Chains::first_crowded` meets its contract. The loop's invariant: no count before `a` is over 31. Assumes nothing.
use mathlib.Core.Path.{◌≡◌}
use lib.ListN.{drop}
use Rattle.messages.specs.StepsWrite1059.{crowded_in}
use Rattle.messages.proofs.write1059.Chains.first_crowded.Given as goal

abbrev pub invariant-loop-a : goal.invariant-loop-a
invariant-loop-a l = crowded_in 0 l.self.counts ≡ crowded_in l.a (drop l.a l.self.counts)
