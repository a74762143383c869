-- Comparing what was sent with what was received. Assumes nothing.
use Rattle.std.specs.Prelude.{List, cond, ℕ, zero, suc, ◌-◌, length, get_or, eqb}
use Rattle.bits.specs.Told.{Told, Accepted, Refused, size}
use Rattle.bits.specs.Part.{Part, part}

-- one past the last of the first n places at which s and t differ; 0 if there is none
unfoldable pub past_last : List ℕ → List ℕ → ℕ → ℕ
past_last s t zero = 0
past_last s t (suc k) = cond (eqb (get_or s k 0) (get_or t k 0)) (past_last s t k) (suc k)

-- the first of the n places from place i on at which s and t differ; the place behind them if there is none
unfoldable pub first_from : List ℕ → List ℕ → ℕ → ℕ → ℕ
first_from s t i zero = i
first_from s t i (suc n) = cond (eqb (get_or s i 0) (get_or t i 0)) (first_from s t (suc i) n) i

-- a run of bytes: where it starts, and how many they are
pub record Run : Type 0 where
  pub start : ℕ
  pub count : ℕ

abbrev pub run : ℕ → ℕ → Run
run i n = record { start = i; count = n }

-- the run from the first to the last differing byte of the first n; no bytes, at the start, if there is none
abbrev pub differs : List ℕ → List ℕ → ℕ → Run
differs s t n = run (first_from s t 0 (past_last s t n)) (past_last s t n - first_from s t 0 (past_last s t n))

-- Comparing the sent s with the received t: Size if their lengths are unequal; else the run from the first to the last differing byte.
unfoldable pub compare : List ℕ → List ℕ → Told Run
compare s t = cond (eqb (length s) (length t)) (Accepted (differs s t (length t))) size

-- the run as a part of the received bytes t; empty, at their start, if the comparison was refused
abbrev pub part_of : Told Run → List ℕ → Part
part_of (Accepted r) t = part r.start r.count t
part_of (Refused n carried) t = part 0 0 t

-- the part of the received t from the first to the last byte that differs from the sent s
abbrev pub differing : List ℕ → List ℕ → Part
differing s t = part_of (compare s t) t
