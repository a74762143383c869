-- Digits, blanks and amounts as the code makes them. Assumes nothing.
use mathlib.Core.Path.{◌≡◌, sym, ap, ◌∙◌}
use mathlib.Core.Bool.{true, false}
use mathlib.Core.List.{[], ◌∷◌}
use Prim.Native.Nat.{ℕ, ◌+◌, ◌-◌, ◌/◌, ◌%◌, ◌^◌, ◌≤◌, ◌<◌}
use native.Mathlib.Numerals.{add-one}
use native.Mathlib.Omega.{arith}
use lib.IntN.{ℤ, pos, negsuc}
use lib.ListN.{take, replicate, length-replicate, replicate-append-replicate}
use lib.Seq.{take_at}
use lib.Signed.{mag}
use borrow.Author.Tests.{lt-ltb}
use Rattle.io.specs.Digits.{last_digits}
use Rattle.printing.specs.Numbers.{amount_of}
use Rattle.printing.specs.declared.number.Amount.{Amount}

module _ {A : Type 0} where
  pub take_replicate : (n m : ℕ) (x : A) → n ≤ m → take n (replicate m x) ≡ replicate n x
  take_replicate n m x h =
      let e : n + (m - n) ≡ m = omega arith in
      ap (λ (k : ℕ). take n (replicate k x)) (sym e) ∙ ap (take n) (sym (replicate-append-replicate n (m - n) x))
      ∙ take_at (replicate n x) (replicate (m - n) x) n (length-replicate n x)

pub two_digits : (n : ℕ) → (48 + n / 10 % 10) ∷ (48 + n % 10) ∷ [] ≡ last_digits 10 2 n
two_digits n = rw (lt-ltb (n / 10 % 10) 10 (omega arith), lt-ltb (n % 10) 10 (omega arith))

module _ (z : ℤ) (m : ℕ) where
  pub below_amount : (n : ℕ) × (z ≡ negsuc n) × (n < 2 ^ 63) → m ≡ mag z → ◌≡◌ {A = Amount} (record { negative = true; size = m + 1 }) (amount_of z)
  below_amount w e = rw (w.1, e, w.1) (ap (λ k. record { negative = true; size = k }) (add-one w.0))

  pub above_amount : (n : ℕ) × (z ≡ pos n) × (n < 2 ^ 63) → m ≡ mag z → ◌≡◌ {A = Amount} (record { negative = false; size = m }) (amount_of z)
  above_amount w e = rw (w.1, e, w.1)
