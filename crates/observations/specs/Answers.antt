-- What each answer of the code tells. Assumes nothing.
use Rattle.std.specs.Prelude.{ℕ, Result}
use Rattle.bits.specs.Told.{Told}
use Rattle.bits.specs.Refusals.{told}
use Rattle.bits.specs.declared.refusal.Refusal.{Refusal}
use Rattle.observations.specs.Read1001.{Seen, seen}
use Rattle.observations.specs.declared.answer.Message.{Message}

-- the header, how many observations were read, and the bit behind the message; or Size, Short, Kind, Room with how many observations there are
abbrev pub told_read : Result Message Refusal → Told Seen
told_read = told (λ m. seen m.header m.count m.end)

-- the bit behind the message that was written; or Size, Satellite and Range with an observation, Range with 0 of the header, TooMany with 32, Room with the bits of the message
abbrev pub told_written : Result ℕ Refusal → Told ℕ
told_written = told (λ q. q)
