-- What is left behind the arms of a `match` over a list lies beyond the list. Assumes nothing.
use mathlib.Core.Path.{◌≡◌, sym}
use mathlib.Core.Logic.{◌⊎◌, inl, inr}
use mathlib.Core.List.{[], ◌∷◌}
use Prim.Native.Nat.{ℕ, zero, suc, ◌≤◌}
use native.Mathlib.Nat.{eq-or-lt_of_le}
use native.Mathlib.Omega.{arith}
use lib.ListN.{get_or, get_or-eq_default}
use types.Run.{OneOf}
use Rattle.crctable.specs.Table.{table}

-- none of the first k numbers is i
abbrev Unmatched : ℕ → ℕ → Type 0
Unmatched zero i = Unit {0}
Unmatched (suc k) i = Unmatched k i × (OneOf (k ∷ []) i → ⊥)

at_least : (k i : ℕ) → Unmatched k i → k ≤ i
at_least zero i h = omega arith
at_least (suc k) i h = go (eq-or-lt_of_le (at_least k i h.0))
  where
    go : (k ≡ i) ⊎ (suc k ≤ i) → suc k ≤ i
    go (inl e) = absurd (h.1 (sym e))
    go (inr l) = l

-- what is left where 0, 1, 2 and so on up to 255 were tried in vain
pub none_left : (i : ℕ) → Unmatched 256 i → 0 ≡ get_or table i 0
unfolding table
none_left i h = sym (get_or-eq_default table 0 (at_least 256 i h))
