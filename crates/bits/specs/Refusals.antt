-- What each refusal of the code tells: its number in the table and the numbers that it carries. Assumes nothing.
use Rattle.std.specs.Prelude.{List, [], ◌∷◌, ◌++◌, ℕ, ◌-◌, length, replicate, Result, Ok, Err}
use Rattle.bits.specs.Told.{Told, Accepted, Refused}
use Rattle.bits.specs.declared.refusal.Refusal.{Refusal}
use Rattle.bits.specs.declared.refusal.Refusal.TheVariants as R

abbrev pub number_of : Refusal → ℕ
number_of (R.Short p m) = 1
number_of R.Width = 2
number_of (R.Range i) = 3
number_of (R.Signal i) = 4
number_of (R.Satellite i) = 5
number_of (R.TooMany a) = 6
number_of (R.Duplicate i) = 7
number_of (R.Room n) = 8
number_of R.Size = 9
number_of R.NoPreamble = 10
number_of R.State = 11
number_of R.Incomplete = 12
number_of R.Kind = 13
number_of (R.BadCheck s c) = 14
number_of R.Full = 15
number_of R.Absent = 16

abbrev pub carried_by : Refusal → List ℕ
carried_by (R.Short p m) = p ∷ m ∷ []
carried_by R.Width = []
carried_by (R.Range i) = i ∷ []
carried_by (R.Signal i) = i ∷ []
carried_by (R.Satellite i) = i ∷ []
carried_by (R.TooMany a) = a ∷ []
carried_by (R.Duplicate i) = i ∷ []
carried_by (R.Room n) = n ∷ []
carried_by R.Size = []
carried_by R.NoPreamble = []
carried_by R.State = []
carried_by R.Incomplete = []
carried_by R.Kind = []
carried_by (R.BadCheck s c) = s ∷ c ∷ []
carried_by R.Full = []
carried_by R.Absent = []

-- with zeros behind them, two numbers in all
abbrev pub carried_pair : Refusal → List ℕ
carried_pair r = carried_by r ++ replicate (2 - length (carried_by r)) 0

-- what a call answers, where `value` says what its good answer tells
abbrev pub told : {T A : Type 0} → (T → A) → Result T Refusal → Told A
told value (Ok v) = Accepted (value v)
told value (Err r) = Refused (number_of r) (carried_by r)
