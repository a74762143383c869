-- The outcome of a call: what it answers, and the lent areas as it leaves them. Assumes nothing.
use Rattle.bits.specs.Told.{Told, Accepted, Refused}

pub record Outcome (A Areas : Type 0) : Type 0 where
  pub answer : Told A
  pub areas : Areas

abbrev pub outcome : {A S : Type 0} → Told A → S → Outcome A S
outcome a s = record { answer = a; areas = s }

-- What was accepted is handed on; a refusal leaves the areas as they came.
abbrev pub refusing : {A B S : Type 0} → S → Told A → (A → Outcome B S) → Outcome B S
refusing s (Accepted a) onward = onward a
refusing s (Refused n carried) onward = outcome (Refused n carried) s
