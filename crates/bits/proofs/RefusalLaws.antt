-- A refusal is fixed by its number and by what it carries, and so an answer by what it tells. Assumes nothing.
use mathlib.Core.Path.{◌≡◌, refl, sym, ap, ◌∙◌}
use mathlib.Core.Bool.{cond}
use mathlib.Core.List.{List}
use Prim.Native.Nat.{ℕ}
use native.Mathlib.Omega.{arith}
use lib.Dec.{eqb}
use lib.ListN.{get_or}
use Rattle.std.specs.Prelude.{Result, Ok, Err, IsErrAnd}
use Rattle.bits.specs.Told.{Told, Accepted, Refused, OneToOne, size, width, short, range, signal, satellite, too_many, duplicate, room, no_preamble, state, incomplete, kind, bad_check, full, absent}
use Rattle.bits.specs.Outcome.{outcome}
use Rattle.bits.specs.Refusals.{told, number_of, carried_by}
use Rattle.bits.specs.declared.refusal.Refusal.{Refusal}
use Rattle.bits.specs.declared.refusal.Refusal.TheVariants as R

-- the numbers are those of the table
module _ {T A : Type 0} (value : T → A) where
  pub table_short : (p m : ℕ) → told value (Err (R.Short p m)) ≡ short p m
  table_short p m = refl

  pub table_width : told value (Err R.Width) ≡ width
  table_width = refl

  pub table_range : (i : ℕ) → told value (Err (R.Range i)) ≡ range i
  table_range i = refl

  pub table_signal : (i : ℕ) → told value (Err (R.Signal i)) ≡ signal i
  table_signal i = refl

  pub table_satellite : (i : ℕ) → told value (Err (R.Satellite i)) ≡ satellite i
  table_satellite i = refl

  pub table_too_many : (a : ℕ) → told value (Err (R.TooMany a)) ≡ too_many a
  table_too_many a = refl

  pub table_duplicate : (i : ℕ) → told value (Err (R.Duplicate i)) ≡ duplicate i
  table_duplicate i = refl

  pub table_room : (n : ℕ) → told value (Err (R.Room n)) ≡ room n
  table_room n = refl

  pub table_size : told value (Err R.Size) ≡ size
  table_size = refl

  pub table_no_preamble : told value (Err R.NoPreamble) ≡ no_preamble
  table_no_preamble = refl

  pub table_state : told value (Err R.State) ≡ state
  table_state = refl

  pub table_incomplete : told value (Err R.Incomplete) ≡ incomplete
  table_incomplete = refl

  pub table_kind : told value (Err R.Kind) ≡ kind
  table_kind = refl

  pub table_bad_check : (s c : ℕ) → told value (Err (R.BadCheck s c)) ≡ bad_check s c
  table_bad_check s c = refl

  pub table_full : told value (Err R.Full) ≡ full
  table_full = refl

  pub table_absent : told value (Err R.Absent) ≡ absent
  table_absent = refl

-- the refusal with a number of the table and the numbers that it carries
refusal_of : ℕ → List ℕ → Refusal
refusal_of n c =
    cond (eqb n 1) (R.Short (get_or c 0 0) (get_or c 1 0))
    (cond (eqb n 2) R.Width
    (cond (eqb n 3) (R.Range (get_or c 0 0))
    (cond (eqb n 4) (R.Signal (get_or c 0 0))
    (cond (eqb n 5) (R.Satellite (get_or c 0 0))
    (cond (eqb n 6) (R.TooMany (get_or c 0 0))
    (cond (eqb n 7) (R.Duplicate (get_or c 0 0))
    (cond (eqb n 8) (R.Room (get_or c 0 0))
    (cond (eqb n 9) R.Size
    (cond (eqb n 10) R.NoPreamble
    (cond (eqb n 11) R.State
    (cond (eqb n 12) R.Incomplete
    (cond (eqb n 13) R.Kind
    (cond (eqb n 14) (R.BadCheck (get_or c 0 0) (get_or c 1 0))
    (cond (eqb n 15) R.Full
    R.Absent))))))))))))))

refusal_again : (r : Refusal) → refusal_of (number_of r) (carried_by r) ≡ r
unfolding refusal_of
refusal_again (R.Short p m) = refl
refusal_again R.Width = refl
refusal_again (R.Range i) = refl
refusal_again (R.Signal i) = refl
refusal_again (R.Satellite i) = refl
refusal_again (R.TooMany a) = refl
refusal_again (R.Duplicate i) = refl
refusal_again (R.Room n) = refl
refusal_again R.Size = refl
refusal_again R.NoPreamble = refl
refusal_again R.State = refl
refusal_again R.Incomplete = refl
refusal_again R.Kind = refl
refusal_again (R.BadCheck s c) = refl
refusal_again R.Full = refl
refusal_again R.Absent = refl

-- the refusal of an answer that refuses
refusal_in : {A : Type 0} → Refusal → Told A → Refusal
refusal_in d (Accepted a) = d
refusal_in d (Refused n c) = refusal_of n c

-- the value of one that accepts
value_in : {A : Type 0} → A → Told A → A
value_in d (Accepted a) = a
value_in d (Refused n c) = d

is_refused : {A : Type 0} → Told A → ℕ
is_refused (Accepted a) = 0
is_refused (Refused n c) = 1

-- Answers that tell the same are the same, where values that tell the same are.
pub told_one_to_one : {T A : Type 0} (value : T → A) → ((x y : T) → value x ≡ value y → x ≡ y) → OneToOne (told value)
unfolding refusal_in value_in is_refused
told_one_to_one {T} {A} value one = record { same = λ {x} {y} e. go x y e }
  where
    go : (x y : Result T Refusal) → told value x ≡ told value y → x ≡ y
    go (Ok v) (Ok w) e = ap Ok (one v w (ap (value_in (value v)) e))
    go (Ok v) (Err r) e = let z : ◌≡◌ {A = ℕ} 0 1 = ap is_refused e in absurd (omega arith)
    go (Err r) (Ok v) e = let z : ◌≡◌ {A = ℕ} 1 0 = ap is_refused e in absurd (omega arith)
    go (Err q) (Err r) e = ap Err (sym (refusal_again q) ∙ ap (refusal_in q) e ∙ refusal_again r)

-- What a call tells that passes a refusal on by `?`: the refusal, as it came.
pub passed_on : {T A : Type 0} (value : T → A) (r : Result T Refusal) (e : Refusal) → IsErrAnd r (λ y. y ≡ e) → told value r ≡ Refused (number_of e) (carried_by e)
passed_on value (Ok v) e p = absurd p
passed_on value (Err y) e p = ap (λ z. Refused (number_of z) (carried_by z)) p

-- and with the lent areas, as they are
pub passed_on_with : {T A S : Type 0} (value : T → A) (areas : S) (r : Result T Refusal) (e : Refusal) → IsErrAnd r (λ y. y ≡ e)
    → outcome (told value r) areas ≡ outcome (Refused (number_of e) (carried_by e)) areas
passed_on_with value areas r e p = ap (λ t. outcome t areas) (passed_on value r e p)
