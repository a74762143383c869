-- Writers of blocks: a record that stands twice, and a run of fields behind what is refused. Assumes nothing.
use Rattle.std.specs.Prelude.{Bool, true, false, cond, List, [], ◌∷◌, ℕ, suc}
use Rattle.bits.specs.Told.{Told, duplicate}
use Rattle.bits.specs.Outcome.{Outcome, refusing}
use Rattle.bits.specs.Fields.{Field}
use Rattle.formats.specs.Written.{fine, put_run}

-- one of the list is the same as k
unfoldable pub is_among : {K : Type 0} → (K → K → Bool) → K → List K → Bool
is_among same k [] = false
is_among same k (j ∷ js) = cond (same j k) true (is_among same k js)

-- Duplicate with the index of the first, counted from i, that is the same as one before it; `seen` are those before the first
unfoldable pub first_repeat : {K : Type 0} → (K → K → Bool) → ℕ → List K → List K → Told Unit
first_repeat same i seen [] = fine
first_repeat same i seen (k ∷ ks) = cond (is_among same k seen) (duplicate i) (first_repeat same (suc i) (k ∷ seen) ks)

-- r is kept or dropped
abbrev pub keep : {A : Type 0} → Bool → A → List A → List A
keep true r rs = r ∷ rs
keep false r rs = rs

-- a call that writes a run of fields from bit p on: what is refused before, then Room; a refusal leaves the data as they came
unfoldable pub write_run : Told Unit → List ℕ → ℕ → List Field → Outcome ℕ (List ℕ)
write_run refused s p fs = refusing s refused (λ u. put_run s p fs)
