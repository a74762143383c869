-- What a call leaves in its area is fixed. Assumes nothing.
use mathlib.Core.Path.{◌≡◌, sym, ◌∙◌}
use mathlib.Core.List.{List}
use Prim.Native.Nat.{ℕ}
use Rattle.window.specs.Tails.{stored}

-- two areas that the statement of `tails` allows are equal
pub stored_only : (s d p q : List ℕ) → p ≡ stored s d → q ≡ stored s d → p ≡ q
stored_only s d p q e f = e ∙ sym f
