-- Formats whose values all have one number of bits: they are read wherever the data reaches so far. Assumes nothing.
use mathlib.Core.Path.{◌≡◌, refl, sym, ap, ◌∙◌}
use mathlib.Core.Bool.{Bool}
use mathlib.Core.List.{List, [], ◌∷◌}
use Prim.Native.Nat.{ℕ, zero, suc, ◌+◌, ◌*◌, ◌≤◌, ◌<◌}
use native.Mathlib.Nat.{zero-mul, add_assoc, suc-mul}
use native.Mathlib.Omega.{arith}
use lib.ListN.{length}
use Rattle.bits.specs.Told.{Accepted, Refused}
use Rattle.bits.specs.Field.{field, reading}
use Rattle.bits.specs.Signed.{fits_unsigned, fits_twos, twos_bits, twos_of}
use Rattle.bits.proofs.ReadLaws.{reads_value}
use Rattle.formats.specs.Format.{Format, coded, unsigned, twos, ◌then◌, shaped, read_each}
use Rattle.formats.proofs.NextLaws.{next_reads}
use Rattle.formats.proofs.TimesLaws.{each_none, each_more, each_refused, each_later}

-- w bits from any bit on are a value
pub record Fixed {A : Type 0} (F : Format A) (w : ℕ) : Type 0 where
  pub value : List ℕ → ℕ → A
  pub whole : (s : List ℕ) (p : ℕ) → length s ≤ 1023 → p + w ≤ length s * 8 → F.reads s p ≡ Accepted (reading (value s p) (p + w))

coded_fixed : {A : Type 0} (w : ℕ) (fit : A → Bool) (number : A → ℕ) (meaning : ℕ → A) → 1 ≤ w → w ≤ 64 → Fixed (coded w fit number meaning) w
coded_fixed w fit number meaning low high =
    record { value = λ s p. meaning (field s p w); whole = λ s p few l. reads_value meaning s p w few low high l }

pub unsigned_fixed : (w : ℕ) → 1 ≤ w → w ≤ 64 → Fixed (unsigned w) w
unsigned_fixed w low high = coded_fixed w (fits_unsigned w) (λ v. v) (λ v. v) low high

pub twos_fixed : (w : ℕ) → 1 ≤ w → w ≤ 64 → Fixed (twos w) w
twos_fixed w low high = coded_fixed w (fits_twos w) (twos_bits w) (twos_of w) low high

pub then_fixed : {A B : Type 0} {F : Format A} {G : Format B} {v w : ℕ} → Fixed F v → Fixed G w → Fixed (F then G) (v + w)
then_fixed {A} {B} {F} {G} {v} {w} f g =
    record {
      value = λ s p. (f.value s p, g.value s (p + v));
      whole = λ s p few l.
          next_reads F (λ a. G) s (f.whole s p few (omega (arith, l))) (g.whole s (p + v) few (omega (arith, l)))
          ∙ ap (λ (q : ℕ). Accepted (reading (f.value s p, g.value s (p + v)) q)) (add_assoc p v w);
    }

pub shaped_fixed : {A B : Type 0} (to : A → B) (from : B → A) {F : Format A} {w : ℕ} → Fixed F w → Fixed (shaped to from F) w
shaped_fixed to from {F} {w} f = record { value = λ s p. to (f.value s p); whole = λ s p few l. rw (f.whole s p few l) }

-- ---- n of them

module _ {A : Type 0} (F : Format A) (w : ℕ) (f : Fixed F w) (s : List ℕ) (few : length s ≤ 1023) where
  -- their values
  pub values : ℕ → ℕ → List A
  values zero p = []
  values (suc n) p = f.value s p ∷ values n (p + w)

  pub values_next : (n p : ℕ) → values (suc n) p ≡ f.value s p ∷ values n (p + w)
  unfolding values
  values_next n p = refl

  pub values_none : (p : ℕ) → values 0 p ≡ []
  unfolding values
  values_none p = refl

  pub length_values : (n p : ℕ) → length (values n p) ≡ n
  unfolding values
  length_values zero p = refl
  length_values (suc n) p = ap suc (length_values n (p + w))

  pub each_whole : (n p : ℕ) → p + n * w ≤ length s * 8 → read_each F n s p ≡ Accepted (reading (values n p) (p + n * w))
  unfolding values
  each_whole zero p l =
      let z = zero-mul w in
      let e : p ≡ p + zero * w = omega (arith, z) in
      each_none F s p ∙ ap (λ (q : ℕ). Accepted (reading [] q)) e
  each_whole (suc n) p l =
      let m = suc-mul n w in
      let e : p + w + n * w ≡ p + suc n * w = omega (arith, m) in
      each_more F n s (f.whole s p few (omega (arith, m, l))) (each_whole n (p + w) (omega (arith, m, l)))
      ∙ ap (λ (q : ℕ). Accepted (reading (f.value s p ∷ values n (p + w)) q)) e

  -- the first that is refused, behind k that are there
  pub each_cut_at : (k n p : ℕ) → k < n → p + k * w ≤ length s * 8 → {m : ℕ} {carried : List ℕ} → F.reads s (p + k * w) ≡ Refused m carried
      → read_each F n s p ≡ Refused m carried
  each_cut_at k zero p h l e = absurd (omega (arith, h))
  each_cut_at zero (suc n) p h l e =
      let z = zero-mul w in
      let q : p + zero * w ≡ p = omega (arith, z) in
      each_refused F n s (sym (ap (F.reads s) q) ∙ e)
  each_cut_at (suc k) (suc n) p h l e =
      let m = suc-mul k w in
      let q : p + w + k * w ≡ p + suc k * w = omega (arith, m) in
      each_later F n s (f.whole s p few (omega (arith, m, l))) (each_cut_at k n (p + w) (omega (arith, h)) (omega (arith, m, l)) (ap (F.reads s) q ∙ e))
