-- The cache calls of the C surface. Assumes nothing.
use Rattle.std.specs.Prelude.{List, [], ◌∷◌, cond, ℕ, ◌+◌, ◌-◌, ◌^◌, ltb}
use Rattle.std.proofs.Math.Option.{Option, none, some}
use Rattle.cache.specs.Cache.{Value, value}

-- 32 bits of two's complement in 64
unfoldable pub in_long : ℕ → ℕ
in_long b = cond (ltb b (2 ^ 31)) b (b + (2 ^ 64 - 2 ^ 32))

-- [0] the IOD and [1] the bias of a lookup; a store and a removal tell nothing
abbrev pub value_values : Option Value → List ℕ
value_values none = []
value_values (some (value i b)) = i ∷ in_long b ∷ []
