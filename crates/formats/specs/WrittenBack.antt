-- What it means that what was read is written back to the same bits. Assumes nothing.
use Rattle.std.specs.Prelude.{◌≡◌, List, ℕ, ◌+◌, ◌-◌, ◌<◌}
use Rattle.bits.specs.Told.{Accepted}
use Rattle.bits.specs.Outcome.{Outcome}
use Rattle.bits.specs.Field.{bit_at}

-- the bits of s from p to q stand in the data that a call left, from bit r on, and it answers the bit behind them
pub record WrittenBack (s : List ℕ) (p q r : ℕ) (call : Outcome ℕ (List ℕ)) : Type 0 where
  pub end : call.answer ≡ Accepted (r + (q - p))
  pub same : (k : ℕ) → k < q - p → bit_at call.areas (r + k) ≡ bit_at s (p + k)
