-- What each answer of the code tells. Assumes nothing.
use Rattle.std.specs.Prelude.{Result}
use Rattle.bits.specs.Told.{Told}
use Rattle.bits.specs.Refusals.{told}
use Rattle.bits.specs.declared.refusal.Refusal.{Refusal}
use Rattle.whole.specs.Whole.{Whole, whole}
use Rattle.whole.specs.declared.answer.Header1059.{Header1059}
use Rattle.whole.specs.declared.answer.Message1059.{Message1059}
use Rattle.whole.specs.declared.answer.Header1230.{Header1230}
use Rattle.whole.specs.declared.answer.Message1230.{Message1230}

-- message 1059: its header, how many records, and the bit behind it; or Size, Short, Kind, Room with how many records there are
abbrev pub told_message1059 : Result Message1059 Refusal → Told (Whole Header1059)
told_message1059 = told (λ m. whole m.header m.count m.end)

-- message 1230: its header, how many records, and the bit behind it; or the same refusals
abbrev pub told_message1230 : Result Message1230 Refusal → Told (Whole Header1230)
told_message1230 = told (λ m. whole m.header m.count m.end)
