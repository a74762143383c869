-- Records in lists of their parts: the records from a place on, one by one. Assumes nothing.
use mathlib.Core.Path.{◌≡◌, refl, ap, ap₂, ◌∙◌}
use mathlib.Core.List.{List, [], ◌∷◌, map}
use Prim.Native.Nat.{ℕ, suc, ◌≤◌, ◌<◌}
use native.Mathlib.Omega.{arith}
use lib.ListN.{length, drop, get_or, drop_of_length-le}
use lib.IntN.{ℤ, pos}
use lib.Seq.{drop-cons}
use Rattle.messages.specs.Records.{Rec1059, rec1059, satellite_of, signal_of1059, bias_of1059, records1059, Rec1230, rec1230, signal_of1230, bias_of1230, records1230}

-- the records from place i on
abbrev pub from1059 : List ℕ → List ℕ → List ℤ → ℕ → List Rec1059
from1059 sats gs zs i = records1059 (drop i sats) (drop i gs) (drop i zs)

module _ (sats gs : List ℕ) (zs : List ℤ) (lg : length sats ≡ length gs) (lz : length sats ≡ length zs) where
  pub next1059 : (i : ℕ) → i < length sats
      → from1059 sats gs zs i ≡ rec1059 (get_or sats i 0) (get_or gs i 0) (get_or zs i (pos 0)) ∷ from1059 sats gs zs (suc i)
  unfolding records1059
  next1059 i h =
      ap₂ (λ (x y : List ℕ). records1059 x y (drop i zs)) (drop-cons sats i 0 h) (drop-cons gs i 0 (omega arith))
      ∙ ap (records1059 (get_or sats i 0 ∷ drop (suc i) sats) (get_or gs i 0 ∷ drop (suc i) gs)) (drop-cons zs i (pos 0) (omega arith))

pub end1059 : (sats gs : List ℕ) (zs : List ℤ) (i : ℕ) → length sats ≤ i → from1059 sats gs zs i ≡ []
unfolding records1059
end1059 sats gs zs i h = ap (λ (x : List ℕ). records1059 x (drop i gs) (drop i zs)) (drop_of_length-le sats h)

-- the records of the parts of records are they themselves
pub columns1059 : (rs : List Rec1059) → records1059 (map satellite_of rs) (map signal_of1059 rs) (map bias_of1059 rs) ≡ rs
unfolding records1059
columns1059 [] = refl
columns1059 (rec1059 a g z ∷ rs) = ap (λ (l : List Rec1059). rec1059 a g z ∷ l) (columns1059 rs)

abbrev pub from1230 : List ℕ → List ℤ → ℕ → List Rec1230
from1230 gs zs i = records1230 (drop i gs) (drop i zs)

pub next1230 : (gs : List ℕ) (zs : List ℤ) → length gs ≡ length zs → (i : ℕ) → i < length gs
    → from1230 gs zs i ≡ rec1230 (get_or gs i 0) (get_or zs i (pos 0)) ∷ from1230 gs zs (suc i)
unfolding records1230
next1230 gs zs l i h = ap₂ records1230 (drop-cons gs i 0 h) (drop-cons zs i (pos 0) (omega arith))

pub end1230 : (gs : List ℕ) (zs : List ℤ) (i : ℕ) → length gs ≤ i → from1230 gs zs i ≡ []
unfolding records1230
end1230 gs zs i h = ap (λ (x : List ℕ). records1230 x (drop i zs)) (drop_of_length-le gs h)

-- the parts of records are the lists, and the records of the parts they themselves
pub parts1230 : (gs : List ℕ) (zs : List ℤ) → length gs ≡ length zs → (map signal_of1230 (records1230 gs zs) ≡ gs) × (map bias_of1230 (records1230 gs zs) ≡ zs)
unfolding records1230
parts1230 [] [] l = (refl, refl)
parts1230 [] (z ∷ zs) l = absurd (omega arith)
parts1230 (g ∷ gs) [] l = absurd (omega arith)
parts1230 (g ∷ gs) (z ∷ zs) l = let r = parts1230 gs zs (omega arith) in (ap (λ (l : List ℕ). g ∷ l) r.0, ap (λ (l : List ℤ). z ∷ l) r.1)

pub columns1230 : (rs : List Rec1230) → records1230 (map signal_of1230 rs) (map bias_of1230 rs) ≡ rs
unfolding records1230
columns1230 [] = refl
columns1230 (rec1230 g z ∷ rs) = ap (λ (l : List Rec1230). rec1230 g z ∷ l) (columns1230 rs)
