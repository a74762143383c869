-- An answer of the code is fixed by what it tells, and so by a statement, and with it the lent memory. Assumes nothing.
use mathlib.Core.Path.{◌≡◌, refl, ap}
use mathlib.Core.List.{List}
use Prim.Native.Nat.{ℕ}
use Rattle.bits.specs.Told.{OneToOne}
use Rattle.bits.specs.Outcome.{Outcome, outcome}
use Rattle.bits.proofs.OutcomeLaws.{only_outcome}
use Rattle.messages.specs.Signals.{Signal, sig, Found, At, None}
use Rattle.messages.specs.Records.{Counted}
use Rattle.messages.specs.Answers.{found_signal, found_number, told_signal, told_number, told_order, records_of, told_read, told_block}
use Rattle.messages.specs.declared.answer.Records.{Records}
use Rattle.std.specs.Prelude.{Option, Some, Result}
use Rattle.std.specs.Prelude as P
use Rattle.std.specs.declared.cmp.Ordering.{Ordering}
use Rattle.std.specs.declared.cmp.Ordering.TheVariants as O
use Rattle.messages.specs.declared.signals.Signal.{Signal as Band}
use Rattle.bits.specs.declared.refusal.Refusal.{Refusal}
use Rattle.bits.proofs.RefusalLaws.{told_one_to_one}

-- ---- signals, numbers and their order

-- the signal that was found
signal_in : Found Signal → Band
signal_in (At (sig b l)) = record { band = b; letter = l }
signal_in None = record { band = 0; letter = 0 }

pub same_signal_found : (x y : Option Band) → found_signal x ≡ found_signal y → x ≡ y
unfolding signal_in
same_signal_found (Some s) (Some t) e = ap (λ (f : Found Signal). Some (signal_in f)) e
same_signal_found (Some s) P.None e = cc
same_signal_found P.None (Some t) e = cc
same_signal_found P.None P.None e = refl

pub same_number_found : (x y : Option ℕ) → found_number x ≡ found_number y → x ≡ y
same_number_found (Some m) (Some n) e = cc
same_number_found (Some m) P.None e = cc
same_number_found P.None (Some n) e = cc
same_number_found P.None P.None e = refl

pub same_order : (x y : Ordering) → told_order x ≡ told_order y → x ≡ y
same_order O.Less O.Less e = refl
same_order O.Less O.Equal e = cc
same_order O.Less O.Greater e = cc
same_order O.Equal O.Less e = cc
same_order O.Equal O.Equal e = refl
same_order O.Equal O.Greater e = cc
same_order O.Greater O.Less e = cc
same_order O.Greater O.Equal e = cc
same_order O.Greater O.Greater e = refl

-- ---- signals and numbers of an edition

pub signal_one_to_one : OneToOne told_signal
signal_one_to_one = told_one_to_one found_signal same_signal_found

pub number_one_to_one : OneToOne told_number
number_one_to_one = told_one_to_one found_number same_number_found

-- ---- reading a block

records_one : (x y : Records) → records_of x ≡ records_of y → x ≡ y
records_one x y e = ap (λ (c : Counted). record { count = c.count; end = c.end }) e

pub read_one_to_one : OneToOne told_read
read_one_to_one = told_one_to_one records_of records_one

-- two outcomes that a statement allows are equal, the lent lists too
pub only_read : {S : Type 0} (d : Outcome Counted S) {x y : Result Records Refusal} {l m : S} → outcome (told_read x) l ≡ d → outcome (told_read y) m ≡ d → (x ≡ y) × (l ≡ m)
only_read d = only_outcome told_read read_one_to_one d

-- ---- writing a block

pub block_one_to_one : OneToOne told_block
block_one_to_one = told_one_to_one (λ q. q) (λ x y e. e)

-- two outcomes that a statement allows are equal, the data too
pub only_block : (d : Outcome ℕ (List ℕ)) {x y : Result ℕ Refusal} {s t : List ℕ} → outcome (told_block x) s ≡ d → outcome (told_block y) t ≡ d → (x ≡ y) × (s ≡ t)
only_block d = only_outcome told_block block_one_to_one d
