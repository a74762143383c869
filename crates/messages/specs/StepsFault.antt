-- What a test of the writers tells. No promise to a caller rests on this file. Assumes nothing.
use Rattle.std.specs.Prelude.{Result}
use Rattle.bits.specs.Told.{Told}
use Rattle.bits.specs.Refusals.{told}
use Rattle.bits.specs.declared.refusal.Refusal.{Refusal}

-- nothing is refused, or the first fault
abbrev pub told_fault : Result (Unit {0}) Refusal → Told Unit
told_fault = told (λ u. u)
