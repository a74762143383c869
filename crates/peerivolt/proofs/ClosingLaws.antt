-- The closing call in numbers: what it returns in each case, that its statement allows one answer, and that a refusal writes nothing but the extra area. Assumes nothing.
use mathlib.Core.Path.{◌≡◌, refl, sym, ◌∙◌}
use mathlib.Core.List.{List}
use Prim.Native.Nat.{ℕ}
use lib.ListN.{length}
use lib.Dec.{eqb}
use borrow.Author.Tests.{eq-eqb, ne_eqb}
use Rattle.bits.specs.Told.{Told}
use Rattle.bits.specs.Outcome.{Outcome, outcome}
use Rattle.frames.specs.Rtcm.{Kind}
use Rattle.frames.specs.Modes.{framing_of}
use Rattle.frames.specs.Close.{ClosedAnswer, close_of}
use Rattle.frames.proofs.EndLaws.{close_keeps}
use Rattle.peerivolt.specs.Extra.{numbers, in_numbers, returned}
use Rattle.peerivolt.specs.Scanner.{scanner_of}
use Rattle.peerivolt.specs.Closing.{closed_values, closes}
use Rattle.peerivolt.proofs.AnswerLaws.{sized, not_sized, either}
use Rattle.peerivolt.proofs.OnlyLaws.{OneAnswer, only_returned}
use Rattle.peerivolt.proofs.KeepLaws.{RefusedKeeps, sized_keeps, answered_keeps}

module _ (a o : List ℕ) (w : Outcome (ClosedAnswer Kind) (List ℕ × List ℕ)) (e : List ℕ) where
  pub not_closed : (length e ≡ 8 → ⊥) → returned 9 e (a, o) ≡ closes a o w e
  unfolding closes
  not_closed n = either (eqb (length a) 1029) (not_sized closed_values e (a, o) w n)

  pub not_closing : (length a ≡ 1029 → ⊥) → returned 9 e (a, o) ≡ closes a o w e
  unfolding closes
  not_closing n = simp (ne_eqb (length a) 1029 n)

pub closed : (a o : List ℕ) {told : Told (ClosedAnswer Kind)} {a' o' : List ℕ} {w : Outcome (ClosedAnswer Kind) (List ℕ × List ℕ)} (e : List ℕ) {r : ℕ} {e' : List ℕ} → length a ≡ 1029
    → length e ≡ 8 → numbers r e' ≡ in_numbers closed_values told → outcome told (a', o') ≡ w → returned r e' (a', o') ≡ closes a o w e
unfolding closes
closed a o e k h q p =
    sized closed_values e (a, o) h q p
    ∙ simp (eq-eqb (length a) 1029 k)

pub is_closed : (a o : List ℕ) (w : Outcome (ClosedAnswer Kind) (List ℕ × List ℕ)) (e : List ℕ) → length a ≡ 1029 → length e ≡ 8
    → closes a o w e ≡ record { answer = in_numbers closed_values w.answer; areas = w.areas }
is_closed a o w e k h = sym (closed a o {told = w.answer} {a' = w.areas.0} {o' = w.areas.1} {w = w} e k h refl refl)

-- by these the check proves the call
pub ruleset closing = (is_closed, not_closed, not_closing)

pub only_pv_close : (held : List ℕ) (count taken mode : ℕ) (out e : List ℕ)
    → OneAnswer (closes held out (close_of (framing_of mode) held (scanner_of count taken mode) out) e)
only_pv_close held count taken mode out e = only_returned (closes held out (close_of (framing_of mode) held (scanner_of count taken mode) out) e)

pub keeps_pv_close : (held : List ℕ) (count taken mode : ℕ) (out e : List ℕ)
    → RefusedKeeps (held, out) (closes held out (close_of (framing_of mode) held (scanner_of count taken mode) out) e)
unfolding closes
keeps_pv_close held count taken mode out e =
    let x = scanner_of count taken mode in
    sized_keeps (held, out) (eqb (length held) 1029) e _ (answered_keeps (held, out) closed_values e (close_of (framing_of mode) held x out) (close_keeps (framing_of mode) held x out))
