-- What the calls of the C surface over bias blocks put into the extra area. Assumes nothing.
use Rattle.std.specs.Prelude.{List, [], ◌∷◌, ℕ}
use Rattle.messages.specs.Records.{Counted}

-- [0] how many records, [1] the end bit
abbrev pub counted_values : Counted → List ℕ
counted_values c = c.count ∷ c.end ∷ []
