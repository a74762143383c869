-- What each answer of the code tells. Assumes nothing.
use Rattle.std.specs.Prelude.{ℕ, ℤ, Result}
use Rattle.bits.specs.Told.{Told}
use Rattle.bits.specs.Refusals.{told}
use Rattle.bits.specs.Field.{Reading, reading}
use Rattle.bits.specs.declared.refusal.Refusal.{Refusal}

-- reading an unsigned field: its number and the bit behind it, or Size, Width, Short
abbrev pub told_unsigned : Result (ℕ × ℕ) Refusal → Told (Reading ℕ)
told_unsigned = told (λ r. reading r.0 r.1)

-- reading a signed field: the same
abbrev pub told_signed : Result (ℤ × ℕ) Refusal → Told (Reading ℤ)
told_signed = told (λ r. reading r.0 r.1)

-- writing a field: the bit behind it, or Size, Width, Range with 0, Room with the width
abbrev pub told_written : Result ℕ Refusal → Told ℕ
told_written = told (λ q. q)
