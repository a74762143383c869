-- Three bytes, highest first, and the number of 24 bits that they are. Assumes nothing.
use mathlib.Core.Path.{◌≡◌, refl, ap, ap₂, ◌∙◌}
use mathlib.Core.List.{List, [], ◌∷◌}
use Prim.Native.Nat.{ℕ, suc, ◌+◌, ◌*◌, ◌/◌, ◌%◌, ◌^◌, ◌≤◌, ◌<◌}
use native.Mathlib.Omega.{arith}
use lib.ListN.{length, get_or, take, drop}
use lib.Seq.{drop-cons}
use Rattle.bits.specs.Field.{field}
use Rattle.bits.specs.Fields.{Bytes}
use Rattle.bits.specs.Crc.{three_bytes}
use Rattle.bits.proofs.FieldLaws.{field_split, byte_field}

-- three bytes, highest first, are a field of 24 bits
pub three_field : (s : List ℕ) (i : ℕ)
    → field s (i * 8) 24 ≡ (get_or s i 0 % 2 ^ 8 * 2 ^ 8 + get_or s (i + 1) 0 % 2 ^ 8) * 2 ^ 8 + get_or s (i + 2) 0 % 2 ^ 8
three_field s i =
    field_split s (i * 8) 16 8
    ∙ ap₂ (λ (x y : ℕ). x * 2 ^ 8 + y)
    (field_split s (i * 8) 8 8 ∙ ap₂ (λ (x y : ℕ). x * 2 ^ 8 + y) (byte_field s (i * 8) i refl) (byte_field s (i * 8 + 8) (i + 1) (omega arith)))
    (byte_field s (i * 8 + 16) (i + 2) (omega arith))

-- three bytes of a number of 24 bits are that number
pub three_back : (v : ℕ) → v < 2 ^ 24 → field (three_bytes v) 0 24 ≡ v
three_back v h = three_field (three_bytes v) 0 ∙ omega arith

-- three bytes of the data are those of their number
pub back_three : (s : List ℕ) (i : ℕ) → Bytes s → i + 3 ≤ length s → take 3 (drop i s) ≡ three_bytes (field s (i * 8) 24)
back_three s i b h =
    let f = three_field s i in
    let x : get_or s i 0 ≡ field s (i * 8) 24 / 2 ^ 16 = omega (arith, b.byte i, b.byte (i + 1), b.byte (i + 2)) in
    let y : get_or s (i + 1) 0 ≡ field s (i * 8) 24 / 2 ^ 8 % 2 ^ 8 = omega (arith, b.byte i, b.byte (i + 1), b.byte (i + 2)) in
    let z : get_or s (i + 2) 0 ≡ field s (i * 8) 24 % 2 ^ 8 = omega (arith, b.byte i, b.byte (i + 1), b.byte (i + 2)) in
    let j : suc i ≡ i + 1 = omega arith in
    let k : suc (suc i) ≡ i + 2 = omega arith in
    ap (take 3) (drop-cons s i 0 (omega arith))
    ∙ ap (λ (l : List ℕ). get_or s i 0 ∷ take 2 l) (drop-cons s (suc i) 0 (omega arith))
    ∙ ap (λ (l : List ℕ). get_or s i 0 ∷ get_or s (suc i) 0 ∷ take 1 l) (drop-cons s (suc (suc i)) 0 (omega arith))
    ∙ ap₂ (λ (m n : ℕ). get_or s i 0 ∷ get_or s m 0 ∷ get_or s n 0 ∷ []) j k
    ∙ rw (x, y, z)
