-- The tails from place k on are stored. Assumes nothing.
use Prim.Native.Nat.{◌-◌}
use lib.ListN.{length}
use Rattle.window.proofs.FillLaws.{Filling}
use Rattle.window.proofs.SumLaws.{weight_at}
use Rattle.window.proofs.add_up.Given as goal

abbrev pub invariant-loop-k : goal.invariant-loop-k
invariant-loop-k l = Filling l.part l.initial.out l.out l.k (weight_at (length l.part - l.k)) l.sum
