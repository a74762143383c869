-- The answer at the C surface: a returned number, and eight numbers in the extra area. Assumes nothing.
use Rattle.std.specs.Prelude.{Bool, cond, List, ◌++◌, ℕ, ◌-◌, length, replicate, eqb}
use Rattle.bits.specs.Told.{Told, Accepted, Refused}
use Rattle.bits.specs.Outcome.{Outcome, outcome}

-- the number that a call returns, and the extra area as it leaves it
pub record Numbers : Type 0 where
  pub number : ℕ
  pub extra : List ℕ

abbrev pub numbers : ℕ → List ℕ → Numbers
numbers n e = record { number = n; extra = e }

-- numbers from the first place on, and 0 in every place behind them
abbrev pub spread : List ℕ → List ℕ
spread vs = vs ++ replicate (8 - length vs) 0

-- an answer in numbers: 0 and the values of what was accepted, or the refusal's number and what it carries
abbrev pub in_numbers : {A : Type 0} → (A → List ℕ) → Told A → Numbers
in_numbers values (Accepted a) = numbers 0 (spread (values a))
in_numbers values (Refused n carried) = numbers n (spread carried)

-- the answer of a call in numbers, and the other lent areas as it leaves them
pub record Returned (Areas : Type 0) : Type 0 where
  pub answer : Numbers
  pub areas : Areas

abbrev pub returned : {Areas : Type 0} → ℕ → List ℕ → Areas → Returned Areas
returned n e areas = record { answer = numbers n e; areas = areas }

-- Where an area that must have one size has another, the answer is Size (9), and nothing is written, the extra area included.
abbrev pub if_sized : {Areas : Type 0} → Bool → List ℕ → Areas → Returned Areas → Returned Areas
if_sized sized e areas r = cond sized r (returned 9 e areas)

-- A call that finds the extra area e and the other areas `before`, with the outcome w: e must have 8 numbers; then what w answers is spread over it, and the other areas are as in w.
unfoldable pub answered : {A Areas : Type 0} → (A → List ℕ) → List ℕ → Areas → Outcome A Areas → Returned Areas
answered values e before w =
    if_sized (eqb (length e) 8) e before (record { answer = in_numbers values w.answer; areas = w.areas })

-- a call that is lent the extra area alone to write, and tells d
abbrev pub reads : {A : Type 0} → (A → List ℕ) → Told A → List ℕ → Returned Unit
reads values d e = answered values e tt (outcome d tt)
