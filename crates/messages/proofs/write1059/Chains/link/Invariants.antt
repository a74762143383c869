-- `messages::write1059::Chains::link` meets its contract. The loop's invariant: the places from `i` on are linked. Assumes nothing.
use Rattle.messages.specs.StepsWrite1059.{Linked}
use Rattle.messages.proofs.write1059.Chains.link.Given as goal

abbrev pub invariant-loop-i : goal.invariant-loop-i
invariant-loop-i l = Linked l.satellites l.self.heads l.self.links l.self.counts l.i
