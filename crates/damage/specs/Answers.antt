-- What the answer of the code tells. Assumes nothing.
use Rattle.std.specs.Prelude.{Result}
use Rattle.bits.specs.Told.{Told}
use Rattle.bits.specs.Refusals.{told}
use Rattle.bits.specs.declared.refusal.Refusal.{Refusal}
use Rattle.damage.specs.Compare.{Run, run}
use Rattle.damage.specs.declared.compare.Run as code

-- comparing: where the differing bytes start and how many they are, or Size
abbrev pub told_compared : Result code.Run Refusal → Told Run
told_compared = told (λ r. run r.start r.count)
