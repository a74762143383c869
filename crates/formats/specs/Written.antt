-- Writers of records: what they refuse first, and a run of fields put where the data reaches so far. Assumes nothing.
use Rattle.std.specs.Prelude.{cond, List, [], ◌∷◌, ℕ, suc, ◌+◌, ◌*◌, length, ltb}
use Rattle.bits.specs.Told.{Told, Accepted, and_then, room}
use Rattle.bits.specs.Outcome.{Outcome, outcome}
use Rattle.bits.specs.Fields.{Field, total, put_all}

-- nothing is refused
abbrev pub fine : Told Unit
fine = Accepted tt

-- the first fault of records, of which the first has index i
unfoldable pub first_fault : {A : Type 0} → (ℕ → A → Told Unit) → ℕ → List A → Told Unit
first_fault fault i [] = fine
first_fault fault i (r ∷ rs) = and_then (fault i r) (λ u. first_fault fault (suc i) rs)

-- a run of fields from bit p on, where the data reaches so far; the answer is the end bit
unfoldable pub put_run : List ℕ → ℕ → List Field → Outcome ℕ (List ℕ)
put_run s p fs =
    cond (ltb (length s * 8) (p + total fs)) (outcome (room (total fs)) s)
    (outcome (Accepted (p + total fs)) (put_all s p fs))
