-- The calls of the C surface over whole messages 1059 and 1230. Assumes nothing.
use Rattle.std.specs.Prelude.{List, [], ◌∷◌, ℕ}
use Rattle.whole.specs.Whole.{Whole}
use Rattle.whole.specs.declared.answer.Header1059.{Header1059}
use Rattle.whole.specs.declared.answer.Header1230.{Header1230}

-- a header of message 1059 of its numbers
abbrev pub header1059 : ℕ → ℕ → ℕ → ℕ → ℕ → ℕ → Header1059
header1059 epoch interval multiple iod provider solution =
    record { epoch = epoch; interval = interval; multiple = multiple; iod = iod; provider = provider; solution = solution }

-- [0] how many records, [1] the end bit, [2] epoch, [3] update interval, [4] multiple message flag, [5] IOD, [6] provider, [7] solution
abbrev pub message1059_values : Whole Header1059 → List ℕ
message1059_values w =
    let h = w.header in
    w.count ∷ w.end ∷ h.epoch ∷ h.interval ∷ h.multiple ∷ h.iod ∷ h.provider ∷ h.solution ∷ []

-- a header of message 1230 of its numbers
abbrev pub header1230 : ℕ → ℕ → ℕ → Header1230
header1230 station indicator reserved = record { station = station; indicator = indicator; reserved = reserved }

-- [0] how many records, [1] the end bit, [2] station, [3] indicator, [4] the reserved bits
abbrev pub message1230_values : Whole Header1230 → List ℕ
message1230_values w =
    let h = w.header in
    w.count ∷ w.end ∷ h.station ∷ h.indicator ∷ h.reserved ∷ []
