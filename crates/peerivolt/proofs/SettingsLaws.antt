-- From what reading a settings block found and told to the statement of its call. Assumes nothing.
use mathlib.Core.Path.{◌≡◌, refl, sym, ◌∙◌}
use mathlib.Core.List.{List}
use Prim.Native.Nat.{ℕ}
use lib.ListN.{length}
use lib.Dec.{eqb}
use borrow.Author.Tests.{eq-eqb, ne_eqb}
use Rattle.bits.specs.Told.{Told}
use Rattle.bits.specs.Outcome.{Outcome, outcome}
use Rattle.settings.specs.Read.{Found}
use Rattle.peerivolt.specs.Extra.{numbers, in_numbers, returned}
use Rattle.peerivolt.specs.Settings.{found_values, reads_settings}
use Rattle.peerivolt.proofs.AnswerLaws.{either, not_sized, sized}

module _ (ns ps : List ℕ) (w : Outcome Found (List ℕ × List ℕ)) (e : List ℕ) where
  pub no_extra : (length e ≡ 8 → ⊥) → returned 9 e (ns, ps) ≡ reads_settings ns ps w e
  unfolding reads_settings
  no_extra n = either (eqb (length ns) 64) (either (eqb (length ps) 64) (not_sized found_values e (ns, ps) w n))

  pub no_numbers : (length ns ≡ 64 → ⊥) → returned 9 e (ns, ps) ≡ reads_settings ns ps w e
  unfolding reads_settings
  no_numbers n = simp (ne_eqb (length ns) 64 n)

  pub no_priorities : (length ps ≡ 64 → ⊥) → returned 9 e (ns, ps) ≡ reads_settings ns ps w e
  unfolding reads_settings
  no_priorities n = either (eqb (length ns) 64) (simp (ne_eqb (length ps) 64 n))

  pub settings_read : {told : Told Found} {a b : List ℕ} {r : ℕ} {e' : List ℕ} → length e ≡ 8 → length ns ≡ 64 → length ps ≡ 64
      → numbers r e' ≡ in_numbers found_values told → outcome told (a, b) ≡ w → returned r e' (a, b) ≡ reads_settings ns ps w e
  unfolding reads_settings
  settings_read h k l q o = sized found_values e (ns, ps) h q o ∙ simp (eq-eqb (length ns) 64 k, eq-eqb (length ps) 64 l)

  pub is_read : length e ≡ 8 → length ns ≡ 64 → length ps ≡ 64 → reads_settings ns ps w e ≡ record { answer = in_numbers found_values w.answer; areas = w.areas }
  is_read h k l = sym (settings_read {told = w.answer} {a = w.areas.0} {b = w.areas.1} h k l refl refl)

-- by these the check proves the call
pub ruleset reading_settings = (is_read, no_extra, no_numbers, no_priorities)
