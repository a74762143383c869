-- What each answer of the code tells. Assumes nothing.
use Rattle.std.specs.Prelude.{ℕ, Result}
use Rattle.bits.specs.Told.{Told}
use Rattle.bits.specs.Refusals.{told}
use Rattle.bits.specs.declared.refusal.Refusal.{Refusal}
use Rattle.settings.specs.Read.{Found, found}
use Rattle.settings.specs.declared.read.Settings.{Settings}

-- reading: how many numbers and the block's edition, or Size, BadCheck with both sums, Kind, Range with an entry's index or 0
abbrev pub told_read : Result Settings Refusal → Told Found
told_read = told (λ s. found s.count s.edition)

-- writing: the bytes of a block, or Kind, Size, Range with an entry's index or 0, Room with the bytes of a block
abbrev pub told_written : Result Unit Refusal → Told ℕ
told_written = told (λ done. 512)
