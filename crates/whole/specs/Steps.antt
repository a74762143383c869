-- What private functions of the code compute. No promise to a caller rests on this file. Assumes nothing.
use Rattle.std.specs.Prelude.{Result}
use Rattle.bits.specs.Told.{Told}
use Rattle.bits.specs.Refusals.{told}
use Rattle.bits.specs.Field.{Reading, reading}
use Rattle.bits.specs.declared.refusal.Refusal.{Refusal}
use Rattle.whole.specs.declared.answer.Header1059.{Header1059}
use Rattle.whole.specs.declared.answer.Header1230.{Header1230}

-- the front of message 1059, which has 61 bits
abbrev pub told_front1059 : Result Header1059 Refusal → Told (Reading Header1059)
told_front1059 = told (λ h. reading h 61)

-- the front of message 1230, which has 28 bits
abbrev pub told_front1230 : Result Header1230 Refusal → Told (Reading Header1230)
told_front1230 = told (λ h. reading h 28)
