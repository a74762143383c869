-- The comparing call of the C surface. Assumes nothing.
use Rattle.std.specs.Prelude.{List, [], ◌∷◌, ℕ}
use Rattle.damage.specs.Compare.{Run}

-- [0] where the differing bytes start, [1] how many they are
abbrev pub run_values : Run → List ℕ
run_values r = r.start ∷ r.count ∷ []
