-- A field of a part of the data is a field of the data. Assumes nothing.
use mathlib.Core.Path.{◌≡◌, refl, sym, ap, ap₂, ◌∙◌}
use mathlib.Core.List.{List, ◌++◌}
use Prim.Native.Nat.{ℕ, zero, suc, ◌+◌, ◌-◌, ◌*◌, ◌/◌, ◌%◌, ◌^◌, ◌≤◌}
use native.Mathlib.Nat.{add_assoc}
use native.Mathlib.Omega.{arith}
use lib.ListN.{length, get_or, drop, get_or-append}
use lib.Seq.{get_or-drop}
use Rattle.bits.specs.Field.{bit_at, field}
use Rattle.bits.proofs.BitLaws.{field_ext}

bit_drop : (n : ℕ) (s : List ℕ) (i : ℕ) → bit_at (drop n s) i ≡ bit_at s (n * 8 + i)
bit_drop n s i =
    let e1 : n + i / 8 ≡ (n * 8 + i) / 8 = omega arith in
    let e2 : i % 8 ≡ (n * 8 + i) % 8 = omega arith in
    ap (λ (x : ℕ). x / 2 ^ (7 - i % 8) % 2) (get_or-drop n s (i / 8) 0) ∙ ap₂ (λ (x y : ℕ). get_or s x 0 / 2 ^ (7 - y) % 2) e1 e2

pub field_drop : (n : ℕ) (s : List ℕ) (p w : ℕ) → field (drop n s) p w ≡ field s (n * 8 + p) w
unfolding field
field_drop n s p zero = refl
field_drop n s p (suc w) =
    ap₂ (λ (x y : ℕ). x * 2 + y) (field_drop n s p w) (bit_drop n s (p + w) ∙ ap (bit_at s) (sym (add_assoc (n * 8) p w)))

-- what comes behind does not matter
pub field_append : (s t : List ℕ) (p w : ℕ) → p + w ≤ length s * 8 → field (s ++ t) p w ≡ field s p w
field_append s t p w h =
    field_ext (s ++ t) s p w (λ i l k. ap (λ (x : ℕ). x / 2 ^ (7 - i % 8) % 2) (get_or-append s t 0 (i / 8) (omega arith)))
