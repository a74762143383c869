-- Records put in order are as many as they were. Assumes nothing.
use mathlib.Core.Path.{◌≡◌, refl, ap, ◌∙◌}
use mathlib.Core.Bool.{Bool}
use mathlib.Core.List.{List, [], ◌∷◌}
use Prim.Native.Nat.{ℕ, zero, suc, ◌+◌, ◌≤◌, ◌<◌}
use native.Mathlib.Decide.{ℕ_discrete}
use native.Mathlib.Omega.{arith}
use borrow.Author.Tests.{eq-eqb, ne_eqb}
use lib.ListN.{length, get_or, length-append}
use lib.IntN.{ℤ}
use Rattle.messages.specs.Every.{Every}
use Rattle.messages.specs.Records.{Rec1059, rec1059, satellite_of, records1059}
use Rattle.messages.specs.Writer.{keep}
use Rattle.messages.specs.Layout1059.{of_satellite}
use Rattle.messages.specs.InOrder.{records_from, in_order1059}

module _ (b g : ℕ) (z : ℤ) (rs : List Rec1059) where
  abbrev more : List Rec1059
  more = rec1059 b g z ∷ rs

  here : (a : ℕ) → b ≡ a → length (of_satellite a more) ≡ suc (length (of_satellite a rs))
  unfolding of_satellite
  here a e = ap (λ (q : Bool). length (keep q (rec1059 b g z) (of_satellite a rs))) (eq-eqb b a e)

  elsewhere : (a : ℕ) → (b ≡ a → ⊥) → length (of_satellite a more) ≡ length (of_satellite a rs)
  unfolding of_satellite
  elsewhere a e = ap (λ (q : Bool). length (keep q (rec1059 b g z) (of_satellite a rs))) (ne_eqb b a e)

  -- one more record counts where its satellite is among those from a on
  outside : (n a : ℕ) → b < a → length (records_from a n more) ≡ length (records_from a n rs)
  unfolding records_from
  outside zero a l = refl
  outside (suc n) a l =
      omega (arith, length-append (of_satellite a more) (records_from (suc a) n more), length-append (of_satellite a rs) (records_from (suc a) n rs), elsewhere a (λ e. omega arith), outside n (suc a) (omega arith))

  inside : (n a : ℕ) → a ≤ b → b < a + n → length (records_from a n more) ≡ suc (length (records_from a n rs))
  unfolding records_from
  inside zero a l m = absurd (omega arith)
  inside (suc n) a l m = go (ℕ_discrete b a) (inside n (suc a))
    where
      both : length (records_from a (suc n) more) ≡ length (of_satellite a more) + length (records_from (suc a) n more)
      both = length-append (of_satellite a more) (records_from (suc a) n more)

      before : length (records_from a (suc n) rs) ≡ length (of_satellite a rs) + length (records_from (suc a) n rs)
      before = length-append (of_satellite a rs) (records_from (suc a) n rs)

      go : Dec (b ≡ a) → (suc a ≤ b → b < suc a + n → length (records_from (suc a) n more) ≡ suc (length (records_from (suc a) n rs)))
          → length (records_from a (suc n) more) ≡ suc (length (records_from a (suc n) rs))
      go (yes e) ih = omega (arith, both, before, here a e, outside n (suc a) (omega arith))
      go (no e) ih = omega (arith, both, before, elsewhere a e, ih (omega arith) (omega arith))

none : (n a : ℕ) → length (records_from a n []) ≡ 0
unfolding records_from of_satellite
none zero a = refl
none (suc n) a = none n (suc a)

pub in_order_1059 : (rs : List Rec1059) → Every (λ r. satellite_of r ≤ 63) rs → length (in_order1059 rs) ≡ length rs
in_order_1059 [] low = none 64 0
in_order_1059 (rec1059 b g z ∷ rs) low = inside b g z rs 64 0 (omega arith) (omega (arith, low.0)) ∙ ap suc (in_order_1059 rs low.1)

-- satellites that are low are so in the records
pub low_records : (sats gs : List ℕ) (zs : List ℤ) → ((i : ℕ) → i < length sats → get_or sats i 0 < 64) → Every (λ r. satellite_of r ≤ 63) (records1059 sats gs zs)
unfolding records1059
low_records [] gs zs l = tt
low_records (a ∷ sats) [] zs l = tt
low_records (a ∷ sats) (g ∷ gs) [] l = tt
low_records (a ∷ sats) (g ∷ gs) (z ∷ zs) l = (omega (arith, l 0 (omega arith)), low_records sats gs zs (λ i h. l (suc i) (omega arith)))

pub length_records : (sats gs : List ℕ) (zs : List ℤ) → length sats ≡ length gs → length sats ≡ length zs → length (records1059 sats gs zs) ≡ length sats
unfolding records1059
length_records [] gs zs i j = refl
length_records (a ∷ sats) [] zs i j = absurd (omega arith)
length_records (a ∷ sats) (g ∷ gs) [] i j = absurd (omega arith)
length_records (a ∷ sats) (g ∷ gs) (z ∷ zs) i j = ap suc (length_records sats gs zs (omega arith) (omega arith))
