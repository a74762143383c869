-- Laws of a field. Assumes nothing.
use mathlib.Core.Path.{◌≡◌, refl, sym, ap, ap₂, ◌∙◌}
use mathlib.Core.List.{List}
use Prim.Native.Nat.{ℕ, zero, suc, ◌+◌, ◌-◌, ◌*◌, ◌/◌, ◌%◌, ◌^◌, ◌≤◌, ◌<◌}
use native.Mathlib.Nat.{zero-lt-suc, mod-lt, pow-suc, lt_of_lt_of_le, add-zero, add-suc, add_assoc, add-mul, mul_assoc, mul-one, mod-one, div-one, mod-eq_of_lt}
use native.Mathlib.Numerals.{add-one}
use native.Mathlib.Omega.{arith}
use lib.ListN.{get_or}
use lib.Arith.{digits_lt}
use lib.Pow.{pow_mono, shr-shr, shl-shr, mod-pow-add, mod-mod-pow, shl_exact, field as pow-field, high as pow-high, low as pow_low}
use Rattle.bits.specs.Field.{bit_at, field}

pub bit_lt : (s : List ℕ) (i : ℕ) → bit_at s i < 2
bit_lt s i = mod-lt (get_or s (i / 8) 0 / 2 ^ (7 - i % 8)) (zero-lt-suc 1)

-- ---- the equations of a field

pub field_none : (s : List ℕ) (p : ℕ) → field s p 0 ≡ 0
unfolding field
field_none s p = refl

pub field_more : (s : List ℕ) (p w : ℕ) → field s p (suc w) ≡ field s p w * 2 + bit_at s (p + w)
unfolding field
field_more s p w = refl

-- ---- laws of any field

-- a field of w bits is below 2 ^ w
pub field_lt : (s : List ℕ) (p w : ℕ) → field s p w < 2 ^ w
unfolding field
field_lt s p zero = zero-lt-suc 0
field_lt s p (suc w) = rw pow-suc (digits_lt (field_lt s p w) (bit_lt s (p + w)))

pub field_below : (s : List ℕ) (p w n : ℕ) → w ≤ n → field s p w < 2 ^ n
field_below s p w n h = lt_of_lt_of_le (field_lt s p w) (pow_mono h)

-- a field is its first a bits and then its last b
pub field_split : (s : List ℕ) (p a b : ℕ) → field s p (a + b) ≡ field s p a * 2 ^ b + field s (p + a) b
unfolding field
field_split s p a zero = ap (field s p) (add-zero a) ∙ sym (add-zero (field s p a * 1) ∙ mul-one (field s p a))
field_split s p a (suc b) =
    ap (field s p) (add-suc a b)
    ∙ ap₂ (λ (x y : ℕ). x * 2 + y) (field_split s p a b) (ap (bit_at s) (sym (add_assoc p a b)))
    ∙ ap (λ (x : ℕ). x + bit_at s (p + a + b)) (add-mul (field s p a * 2 ^ b) (field s (p + a) b) 2 ∙ ap (λ (x : ℕ). x + field s (p + a) b * 2) (mul_assoc (field s p a) (2 ^ b) 2))
    ∙ add_assoc (field s p a * (2 ^ b * 2)) (field s (p + a) b * 2) (bit_at s (p + a + b))
    ∙ ap (λ (x : ℕ). field s p a * x + (field s (p + a) b * 2 + bit_at s (p + a + b))) (sym (pow-suc 2 b))

-- a field that lies within one byte
pub field_byte : (s : List ℕ) (q w : ℕ) → q % 8 + w ≤ 8 → field s q w ≡ get_or s (q / 8) 0 / 2 ^ (8 - q % 8 - w) % 2 ^ w
unfolding field
field_byte s q zero h = sym (mod-one (get_or s (q / 8) 0 / 2 ^ (8 - q % 8 - 0)))
field_byte s q (suc w) h =
    let e1 : (q + w) / 8 ≡ q / 8 = omega arith in
    let e2 : 7 - (q + w) % 8 ≡ 8 - q % 8 - suc w = omega arith in
    let e3 : 8 - q % 8 - w ≡ 8 - q % 8 - suc w + 1 = omega arith in
    ap₂ (λ (x y : ℕ). x * 2 + y)
    (field_byte s q w (omega arith) ∙ ap (λ (x : ℕ). get_or s (q / 8) 0 / 2 ^ x % 2 ^ w) e3)
    (ap₂ (λ (x y : ℕ). get_or s x 0 / 2 ^ y % 2) e1 e2)
    ∙ ap (λ (x : ℕ). x % 2 ^ w * 2 + get_or s (q / 8) 0 / 2 ^ (8 - q % 8 - suc w) % 2) (sym (shr-shr (get_or s (q / 8) 0) (8 - q % 8 - suc w) 1))
    ∙ sym (mod-pow-add (get_or s (q / 8) 0 / 2 ^ (8 - q % 8 - suc w)) w 1)
    ∙ ap (λ (x : ℕ). get_or s (q / 8) 0 / 2 ^ (8 - q % 8 - suc w) % 2 ^ x) (add-one w)

-- w digits of x, n digits long, from digit o on: first shift to the top, then down
pub part_digits : (n x o w : ℕ) → o + w ≤ n → x * 2 ^ o % 2 ^ n / 2 ^ (n - w) ≡ x / 2 ^ (n - o - w) % 2 ^ w
part_digits n x o w h =
    let e1 : n ≡ w + (n - w) = omega arith in
    let e2 : n - w ≡ o + (n - o - w) = omega arith in
    ap (λ (k : ℕ). x * 2 ^ o % 2 ^ k / 2 ^ (n - w)) e1
    ∙ pow-field (x * 2 ^ o) w (n - w)
    ∙ ap (λ (k : ℕ). x * 2 ^ o / 2 ^ k % 2 ^ w) e2
    ∙ ap (λ (k : ℕ). k % 2 ^ w) (sym (shr-shr (x * 2 ^ o) o (n - o - w)) ∙ ap (λ (k : ℕ). k / 2 ^ (n - o - w)) (shl-shr x o))

-- m bits more, out of one byte
pub field_chunk : (s : List ℕ) (p k m : ℕ) → (p + k) % 8 + m ≤ 8
    → field s p (k + m) ≡ field s p k * 2 ^ m + get_or s ((p + k) / 8) 0 * 2 ^ ((p + k) % 8) % 2 ^ 8 / 2 ^ (8 - m)
field_chunk s p k m h =
    field_split s p k m
    ∙ ap (λ (x : ℕ). field s p k * 2 ^ m + x) (field_byte s (p + k) m h ∙ sym (part_digits 8 (get_or s ((p + k) / 8) 0) ((p + k) % 8) m h))

-- the same, as 64-bit code shifts it
pub chunk_step : (s : List ℕ) (p k m v b : ℕ) → v ≡ field s p k → b ≡ get_or s ((p + k) / 8) 0 → (p + k) % 8 + m ≤ 8 → k + m ≤ 64
    → v * 2 ^ m % 2 ^ 64 + b * 2 ^ ((p + k) % 8) % 2 ^ 64 % 2 ^ 8 / 2 ^ (8 - m) ≡ field s p (k + m)
chunk_step s p k m v b ev eb h l =
    ap₂ (λ (x y : ℕ). x + y / 2 ^ (8 - m))
    (shl_exact k m 64 (rw ev (field_lt s p k)) l ∙ ap (λ (x : ℕ). x * 2 ^ m) ev)
    (mod-mod-pow (b * 2 ^ ((p + k) % 8)) 56 8 ∙ ap (λ (x : ℕ). x * 2 ^ ((p + k) % 8) % 2 ^ 8) eb)
    ∙ sym (field_chunk s p k m h)

-- ---- a field out of a longer one

pub field_within : (s : List ℕ) (q n o w : ℕ) → o + w ≤ n → field s (q + o) w ≡ field s q n * 2 ^ o % 2 ^ n / 2 ^ (n - w)
field_within s q n o w h =
    let e : n ≡ o + w + (n - o - w) = omega arith in
    sym (part_digits n (field s q n) o w h
    ∙ ap (λ (k : ℕ). k / 2 ^ (n - o - w) % 2 ^ w) (ap (field s q) e ∙ field_split s q (o + w) (n - o - w))
    ∙ ap (λ (k : ℕ). k % 2 ^ w) (pow-high (field s q (o + w)) (n - o - w) (field_lt s (q + (o + w)) (n - o - w)))
    ∙ ap (λ (k : ℕ). k % 2 ^ w) (field_split s q o w)
    ∙ pow_low (field s q o) w (field_lt s (q + o) w))

-- the field of eight bits at byte i
pub byte_field : (s : List ℕ) (q i : ℕ) → q ≡ i * 8 → field s q 8 ≡ get_or s i 0 % 2 ^ 8
byte_field s q i e =
    let a : q / 8 ≡ i = omega arith in
    let b : 8 - q % 8 - 8 ≡ 0 = omega arith in
    field_byte s q 8 (omega arith)
    ∙ ap₂ (λ (x y : ℕ). get_or s x 0 / 2 ^ y % 2 ^ 8) a b
    ∙ ap (λ (x : ℕ). x % 2 ^ 8) (div-one (get_or s i 0))

-- a byte is a field
pub field_whole : (s : List ℕ) (i : ℕ) → get_or s i 0 < 256 → field s (i * 8) 8 ≡ get_or s i 0
field_whole s i h = byte_field s (i * 8) i refl ∙ mod-eq_of_lt h

-- eight bytes, highest first, are a field of 64 bits
pub eight_field : (s : List ℕ) (i : ℕ)
    → field s (i * 8) 64
    ≡ (((((((get_or s i 0 % 2 ^ 8 * 2 ^ 8 + get_or s (i + 1) 0 % 2 ^ 8) * 2 ^ 8 + get_or s (i + 2) 0 % 2 ^ 8) * 2 ^ 8 + get_or s (i + 3) 0 % 2 ^ 8) * 2 ^ 8 + get_or s (i + 4) 0 % 2 ^ 8) * 2 ^ 8 + get_or s (i + 5) 0 % 2 ^ 8) * 2 ^ 8 + get_or s (i + 6) 0 % 2 ^ 8) * 2 ^ 8 + get_or s (i + 7) 0 % 2 ^ 8)
eight_field s i =
    let next : (w k : ℕ) (x : ℕ) → (i + k) * 8 ≡ i * 8 + w → field s (i * 8) w ≡ x → field s (i * 8) (w + 8) ≡ x * 2 ^ 8 + get_or s (i + k) 0 % 2 ^ 8 =
    λ w k x e f. field_split s (i * 8) w 8 ∙ ap₂ (λ (y z : ℕ). y * 2 ^ 8 + z) f (byte_field s (i * 8 + w) (i + k) (sym e)) in
    next 56 7 _ (omega arith)
    (next 48 6 _ (omega arith)
    (next 40 5 _ (omega arith)
    (next 32 4 _ (omega arith)
    (next 24 3 _ (omega arith)
    (next 16 2 _ (omega arith)
    (next 8 1 _ (omega arith) (byte_field s (i * 8) i refl)))))))
