-- The five lists of raw numbers that a call lends, and the observations in them. Assumes nothing.
use Rattle.std.specs.Prelude.{Bool, ◌&&◌, List, [], ◌∷◌, map, ℕ, zero, suc, length, get_or, ℤ, pos, eqb}
use Rattle.bits.specs.Onto.{onto}
use Rattle.observations.specs.declared.answer.Observation.{Observation}

-- a list for each number of an observation
pub record Lists : Type 0 where
  pub satellites : List ℕ
  pub codes : List ℕ
  pub pseudoranges : List ℕ
  pub phases : List ℤ
  pub locks : List ℕ

abbrev pub lists : List ℕ → List ℕ → List ℕ → List ℤ → List ℕ → Lists
lists ss cs rs ps ls = record { satellites = ss; codes = cs; pseudoranges = rs; phases = ps; locks = ls }

-- how many places they have
abbrev pub places : Lists → ℕ
places l = length l.satellites

-- five lengths are one
unfoldable pub even_counts : ℕ → ℕ → ℕ → ℕ → ℕ → Bool
even_counts a b c d e = eqb a b && (eqb a c && (eqb a d && eqb a e))

-- they have one length
abbrev pub even : Lists → Bool
even l = even_counts (places l) (length l.codes) (length l.pseudoranges) (length l.phases) (length l.locks)

-- the observation at place i
abbrev pub row_at : Lists → ℕ → Observation
row_at l i =
    record {
      satellite = get_or l.satellites i 0;
      code = get_or l.codes i 0;
      pseudorange = get_or l.pseudoranges i 0;
      phase = get_or l.phases i (pos 0);
      lock = get_or l.locks i 0;
    }

-- the n observations from place i on
unfoldable pub rows_from : Lists → ℕ → ℕ → List Observation
rows_from l i zero = []
rows_from l i (suc n) = row_at l i ∷ rows_from l (suc i) n

-- all observations
abbrev pub rows : Lists → List Observation
rows l = rows_from l 0 (places l)

-- the lists with observations over their front
abbrev pub filled : List Observation → Lists → Lists
filled os l =
    record {
      satellites = onto (map (λ o. o.satellite) os) l.satellites;
      codes = onto (map (λ o. o.code) os) l.codes;
      pseudoranges = onto (map (λ o. o.pseudorange) os) l.pseudoranges;
      phases = onto (map (λ o. o.phase) os) l.phases;
      locks = onto (map (λ o. o.lock) os) l.locks;
    }
