-- What a comparison that fails, and a word without characters, say. Assumes nothing.
use Rattle.std.proofs.Common.{◌≡◌, ℕ, Bool, true, false, List, [], ◌∷◌, length, sym, ◌∙◌, true≢false, arith}
use Rattle.reading.specs.Arguments.{Dashed}

-- what a failed test does not say
pub differs : {P : Type 0} {r : Bool} → (P → r ≡ true) → r ≡ false → P → ⊥
differs f e p = true≢false (sym (f p) ∙ e)

pub no_dash : (w : List ℕ) → length w ≡ 0 → Dashed w → ⊥
no_dash [] e d = omega arith
no_dash (x ∷ w) e d = omega arith
