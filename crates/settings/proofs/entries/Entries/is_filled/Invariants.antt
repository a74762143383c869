-- Up to byte `at`, all are zeros. Assumes nothing.
use Rattle.std.proofs.Common.{◌≡◌, ◌-◌}
use Rattle.settings.specs.Read.{zeros}
use Rattle.settings.proofs.entries.Entries.is_filled.Given as goal

abbrev pub invariant-loop-at : goal.invariant-loop-at
invariant-loop-at l = zeros l.self.block.now l.at (509 - l.at) ≡ zeros l.self.block.now l.end (509 - l.end)
