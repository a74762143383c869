-- The order in which the records of a list are written. Assumes nothing.
use Rattle.std.specs.Prelude.{List, [], ◌++◌, map, ℕ, zero, suc}
use Rattle.messages.specs.Every.{gather}
use Rattle.messages.specs.Records.{Rec1059, Rec1230, rec1230}
use Rattle.messages.specs.Layout1230.{mask_signals, of_signal}
use Rattle.messages.specs.Layout1059.{of_satellite}

-- the records of the n satellites from a on, ascending, those of each in list order
unfoldable pub records_from : ℕ → ℕ → List Rec1059 → List Rec1059
records_from a zero rs = []
records_from a (suc n) rs = of_satellite a rs ++ records_from (suc a) n rs

-- the satellites from 0 to 63
abbrev pub in_order1059 : List Rec1059 → List Rec1059
in_order1059 rs = records_from 0 64 rs

-- the records of each signal, in the order of the mask
abbrev pub in_order1230 : List Rec1230 → List Rec1230
in_order1230 rs = gather (λ g. map (rec1230 g) (of_signal g rs)) mask_signals
