-- The settings calls of the C surface. Assumes nothing.
use Rattle.std.specs.Prelude.{List, [], ◌∷◌, ℕ, length, eqb}
use Rattle.bits.specs.Outcome.{Outcome}
use Rattle.settings.specs.Read.{Found}
use Rattle.peerivolt.specs.Extra.{Returned, if_sized, answered}

-- [0] how many numbers, [1] the block's edition
abbrev pub found_values : Found → List ℕ
found_values f = f.count ∷ f.edition ∷ []

-- A call that is lent lists of numbers and of priorities to fill, which must have 64 places each, with the outcome w.
unfoldable pub reads_settings : List ℕ → List ℕ → Outcome Found (List ℕ × List ℕ) → List ℕ → Returned (List ℕ × List ℕ)
reads_settings ns ps w e =
    if_sized (eqb (length ns) 64) e (ns, ps) (if_sized (eqb (length ps) 64) e (ns, ps) (answered found_values e (ns, ps) w))
