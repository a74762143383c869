-- The fields of a block of message 1059, satellite by satellite and bias by bias. Assumes nothing.
use mathlib.Core.Path.{◌≡◌, refl, sym, ap, ap₂, ◌∙◌}
use mathlib.Core.List.{List, [], ◌∷◌, ◌++◌, map, append-nil}
use Prim.Native.Nat.{ℕ, suc, ◌+◌, ◌-◌, ◌≤◌, ◌<◌}
use native.Mathlib.Numerals.{add-one}
use native.Mathlib.Omega.{arith}
use lib.ListN.{length, length-map}
use lib.IntN.{ℤ}
use Rattle.bits.specs.Signed.{twos_bits}
use Rattle.bits.specs.Fields.{Field, bits}
use Rattle.formats.specs.Format.{fields_each}
use Rattle.formats.proofs.TimesLaws.{fields_none as no_fields, fields_next, fields_append}
use Rattle.messages.specs.Records.{Rec1059, rec1059}
use Rattle.messages.specs.Layout1059.{bias1059, satellite1059, Sat, of_satellite, bias_of, with_some, grouped_from}
use Rattle.messages.specs.StepsWrite1059.{bias_fields, satellite_fields, satellites_from}

-- ---- the biases of a satellite

pub biases_next : (a g : ℕ) (z : ℤ) (rs : List Rec1059) → bias_fields (rec1059 a g z ∷ rs) ≡ bits 5 g ∷ bits 14 (twos_bits 14 z) ∷ bias_fields rs
unfolding bias_fields
biases_next a g z rs = fields_next bias1059 (g, z) (map bias_of rs)

pub biases_none : bias_fields [] ≡ []
unfolding bias_fields
biases_none = no_fields bias1059

-- ---- the fields of a satellite, by how many records it has

pub fields_some : (a : ℕ) (rs : List Rec1059) → (length rs ≡ 0 → ⊥) → satellite_fields a rs ≡ bits 6 a ∷ bits 5 (length rs) ∷ bias_fields rs
unfolding satellite_fields bias_fields with_some
fields_some a [] n = absurd (n refl)
fields_some a (r ∷ rs) n =
    let bs = map bias_of (r ∷ rs) in
    fields_next satellite1059 (a, bs) []
    ∙ ap₂ (λ (k : ℕ) (fs : List Field). bits 6 a ∷ bits 5 k ∷ fs) (length-map (r ∷ rs) bias_of)
    (ap (λ (fs : List Field). fields_each bias1059 bs ++ fs) (no_fields satellite1059) ∙ append-nil (fields_each bias1059 bs))

pub fields_none : (a : ℕ) (rs : List Rec1059) → length rs ≡ 0 → satellite_fields a rs ≡ []
unfolding satellite_fields with_some
fields_none a [] n = no_fields satellite1059
fields_none a (r ∷ rs) n = absurd (omega arith)

-- ---- the satellites from a on

module _ (rs : List Rec1059) (a : ℕ) where
  apart : (l : List Rec1059) (xs : List Sat) → with_some a l xs ≡ with_some a l [] ++ xs
  unfolding with_some
  apart [] xs = refl
  apart (r ∷ l) xs = refl

  pub satellites_next : a < 64 → satellites_from a (64 - a) rs ≡ satellite_fields a (of_satellite a rs) ++ satellites_from (a + 1) (64 - (a + 1)) rs
  unfolding satellites_from satellite_fields grouped_from
  satellites_next h =
      let e : 64 - a ≡ suc (64 - (a + 1)) = omega arith in
      ap (λ (n : ℕ). satellites_from a n rs) e
      ∙ ap (fields_each satellite1059) (apart (of_satellite a rs) (grouped_from (suc a) (64 - (a + 1)) rs))
      ∙ fields_append satellite1059 (with_some a (of_satellite a rs) []) (grouped_from (suc a) (64 - (a + 1)) rs)
      ∙ ap (λ (b : ℕ). satellite_fields a (of_satellite a rs) ++ satellites_from b (64 - (a + 1)) rs) (sym (add-one a))

  pub satellites_none : 64 ≤ a → satellites_from a (64 - a) rs ≡ []
  unfolding satellites_from grouped_from
  satellites_none h = let e : 64 - a ≡ 0 = omega arith in ap (λ (n : ℕ). satellites_from a n rs) e ∙ no_fields satellite1059
