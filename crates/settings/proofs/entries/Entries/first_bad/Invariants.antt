-- Before entry k, none is bad. Assumes nothing.
use Rattle.std.proofs.Common.{◌≡◌, ◌-◌}
use Rattle.settings.specs.Block.{first_bad, number_in, priority_in, edition_in}
use Rattle.settings.specs.Read.{bad_in}
use Rattle.settings.proofs.entries.Entries.first_bad.Given as goal

abbrev pub invariant-loop-k : goal.invariant-loop-k
invariant-loop-k l =
    first_bad (edition_in l.self.block.now) (number_in l.self.block.now) (priority_in l.self.block.now) l.k (l.self.count - l.k) ≡ bad_in l.self.block.now
