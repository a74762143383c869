-- From what a call found and what it was told to its statement. Assumes nothing.
use mathlib.Core.Path.{◌≡◌, refl, sym, ap, ◌∙◌}
use mathlib.Core.Bool.{Bool, true, false, cond}
use mathlib.Core.List.{List}
use Prim.Native.Nat.{ℕ}
use lib.ListN.{length}
use lib.Dec.{eqb}
use borrow.Author.Tests.{eq-eqb, ne_eqb}
use Rattle.bits.specs.Told.{Told, Accepted}
use Rattle.bits.specs.Outcome.{Outcome, outcome}
use Rattle.frames.specs.Rtcm.{Kind}
use Rattle.frames.specs.Call.{FedAnswer, FedOutcome}
use Rattle.peerivolt.specs.Extra.{Numbers, numbers, in_numbers, returned, answered, reads}
use Rattle.peerivolt.specs.Scanner.{fed_values, feeds}

-- ---- any call

module _ {A Areas : Type 0} (values : A → List ℕ) (e : List ℕ) (before : Areas) where
  -- the extra area has another size
  pub not_sized : (w : Outcome A Areas) → (length e ≡ 8 → ⊥) → returned 9 e before ≡ answered values e before w
  unfolding answered
  not_sized w n = simp (ne_eqb (length e) 8 n)

  -- the extra area has its size, and was filled with what the code answers: its outcome is w by its statement
  pub sized : {told : Told A} {after : Areas} {w : Outcome A Areas} {r : ℕ} {e' : List ℕ}
      → length e ≡ 8 → numbers r e' ≡ in_numbers values told → outcome told after ≡ w → returned r e' after ≡ answered values e before w
  unfolding answered
  sized {told} {after} h q o =
      ap (λ (n : Numbers). record { answer = n; areas = after }) q
      ∙ ap (λ (u : Outcome A Areas). record { answer = in_numbers values u.answer; areas = u.areas }) o
      ∙ simp (eq-eqb (length e) 8 h)

  -- the same as an equation of the statement
  pub is_sized : (w : Outcome A Areas) → length e ≡ 8 → answered values e before w ≡ record { answer = in_numbers values w.answer; areas = w.areas }
  is_sized w h = sym (sized {told = w.answer} {after = w.areas} {w = w} h refl refl)

-- by these the check proves a call, whatever the form of its code
pub ruleset answers = (is_sized, not_sized)

-- ---- a call that is lent the extra area alone

pub not_read : {A : Type 0} (values : A → List ℕ) (d : Told A) (e : List ℕ) → (length e ≡ 8 → ⊥) → returned 9 e tt ≡ reads values d e
not_read values d e n = not_sized values e tt (outcome d tt) n

pub read : {A : Type 0} (values : A → List ℕ) {told d : Told A} (e : List ℕ) {r : ℕ} {e' : List ℕ}
    → length e ≡ 8 → numbers r e' ≡ in_numbers values told → told ≡ d → returned r e' tt ≡ reads values d e
read values e h q o = sized values e tt h q (ap (λ d. outcome d tt) o)

-- and that refuses nothing
pub found : {A : Type 0} (values : A → List ℕ) {a d : A} (e : List ℕ) {r : ℕ} {e' : List ℕ}
    → length e ≡ 8 → numbers r e' ≡ in_numbers values (Accepted a) → a ≡ d → returned r e' tt ≡ reads values (Accepted d) e
found values e h q o = read values e h q (ap Accepted o)

-- ---- a call of the scanner

pub either : {A : Type 0} (b : Bool) {x y : A} → x ≡ y → x ≡ cond b y x
either true e = e
either false e = refl

pub not_fed : (a o : List ℕ) (w : FedOutcome Kind) (e : List ℕ) → (length e ≡ 8 → ⊥) → returned 9 e (a, o) ≡ feeds a o w e
unfolding feeds
not_fed a o w e n = either (eqb (length a) 1029) (not_sized fed_values e (a, o) w n)

pub not_held : (a o : List ℕ) (w : FedOutcome Kind) (e : List ℕ) → (length a ≡ 1029 → ⊥) → returned 9 e (a, o) ≡ feeds a o w e
unfolding feeds
not_held a o w e n = simp (ne_eqb (length a) 1029 n)

pub fed : (a o : List ℕ) {told : Told (FedAnswer Kind)} {a' o' : List ℕ} {w : FedOutcome Kind} (e : List ℕ) {r : ℕ} {e' : List ℕ} → length a ≡ 1029
    → length e ≡ 8 → numbers r e' ≡ in_numbers fed_values told → outcome told (a', o') ≡ w → returned r e' (a', o') ≡ feeds a o w e
unfolding feeds
fed a o e k h q p =
    sized fed_values e (a, o) h q p
    ∙ simp (eq-eqb (length a) 1029 k)

pub is_fed : (a o : List ℕ) (w : FedOutcome Kind) (e : List ℕ) → length a ≡ 1029 → length e ≡ 8 → feeds a o w e ≡ record { answer = in_numbers fed_values w.answer; areas = w.areas }
is_fed a o w e k h = sym (fed a o {told = w.answer} {a' = w.areas.0} {o' = w.areas.1} {w = w} e k h refl refl)

-- by these the check proves the call
pub ruleset feeding = (is_fed, not_fed, not_held)
