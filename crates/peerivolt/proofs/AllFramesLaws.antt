-- The call that lists all frames, in numbers: what it returns in each case, that its statement allows one answer, and that a refusal writes nothing but the extra area. Assumes nothing.
use mathlib.Core.Path.{◌≡◌, refl, sym, ◌∙◌}
use mathlib.Core.List.{List}
use Prim.Native.Nat.{ℕ}
use lib.ListN.{length}
use lib.Dec.{eqb}
use borrow.Author.Tests.{eq-eqb, ne_eqb}
use Rattle.bits.specs.Told.{Told}
use Rattle.bits.specs.Outcome.{Outcome, outcome}
use Rattle.frames.specs.Modes.{framing_of}
use Rattle.batch.specs.Batch.{Areas, AllAnswer, feed_all_of}
use Rattle.batch.proofs.CallLaws.{feed_all_keeps}
use Rattle.peerivolt.specs.Extra.{numbers, in_numbers, returned}
use Rattle.peerivolt.specs.Scanner.{scanner_of}
use Rattle.peerivolt.specs.AllFrames.{all_values, feeds_all}
use Rattle.peerivolt.proofs.AnswerLaws.{sized, not_sized, either}
use Rattle.peerivolt.proofs.OnlyLaws.{OneAnswer, only_returned}
use Rattle.peerivolt.proofs.KeepLaws.{RefusedKeeps, sized_keeps, answered_keeps}

module _ (a : Areas) (w : Outcome AllAnswer Areas) (e : List ℕ) where
  pub no_extra : (length e ≡ 8 → ⊥) → returned 9 e a ≡ feeds_all a w e
  unfolding feeds_all
  no_extra n = either (eqb (length a.held) 1029) (either (eqb (length a.seam) 2058) (not_sized all_values e a w n))

  pub no_held : (length a.held ≡ 1029 → ⊥) → returned 9 e a ≡ feeds_all a w e
  unfolding feeds_all
  no_held n = simp (ne_eqb (length a.held) 1029 n)

  pub no_seam : (length a.seam ≡ 2058 → ⊥) → returned 9 e a ≡ feeds_all a w e
  unfolding feeds_all
  no_seam n = either (eqb (length a.held) 1029) (simp (ne_eqb (length a.seam) 2058 n))

  pub all_listed : {told : Told AllAnswer} {b : Areas} {r : ℕ} {e' : List ℕ} → length e ≡ 8 → length a.held ≡ 1029 → length a.seam ≡ 2058
      → numbers r e' ≡ in_numbers all_values told → outcome told b ≡ w → returned r e' b ≡ feeds_all a w e
  unfolding feeds_all
  all_listed h k l q o = sized all_values e a h q o ∙ simp (eq-eqb (length a.held) 1029 k, eq-eqb (length a.seam) 2058 l)

  pub is_listed : length e ≡ 8 → length a.held ≡ 1029 → length a.seam ≡ 2058 → feeds_all a w e ≡ record { answer = in_numbers all_values w.answer; areas = w.areas }
  is_listed h k l = sym (all_listed {told = w.answer} {b = w.areas} h k l refl refl)

-- by these the check proves the call
pub ruleset listing = (is_listed, no_extra, no_held, no_seam)

module _ (a : Areas) (count taken mode : ℕ) (piece e : List ℕ) where
  pub only_pv_feed_all : OneAnswer (feeds_all a (feed_all_of (framing_of mode) a (scanner_of count taken mode) piece) e)
  only_pv_feed_all = only_returned (feeds_all a (feed_all_of (framing_of mode) a (scanner_of count taken mode) piece) e)

  pub keeps_pv_feed_all : RefusedKeeps a (feeds_all a (feed_all_of (framing_of mode) a (scanner_of count taken mode) piece) e)
  unfolding feeds_all
  keeps_pv_feed_all =
      let x = scanner_of count taken mode in
      sized_keeps a (eqb (length a.held) 1029) e _
      (sized_keeps a (eqb (length a.seam) 2058) e _ (answered_keeps a all_values e (feed_all_of (framing_of mode) a x piece) (feed_all_keeps (framing_of mode) a x piece)))
