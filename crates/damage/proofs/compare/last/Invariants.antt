-- The last k bytes are equal. Assumes nothing.
use Rattle.std.proofs.Common.{◌≡◌, ◌≤◌, ◌<◌, ◌-◌, ℕ, length, get_or}
use Rattle.damage.proofs.compare.last.Given as goal

abbrev pub invariant-loop-k : goal.invariant-loop-k
invariant-loop-k l = (j : ℕ) → length l.received - l.k ≤ j → j < length l.received → get_or l.sent j 0 ≡ get_or l.received j 0
