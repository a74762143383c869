-- Writing keeps the length, changes exactly the named bits, and what is written is read back. Assumes nothing.
use mathlib.Core.Path.{◌≡◌, refl, sym, ap, ap₂, ◌∙◌}
use mathlib.Core.Logic.{◌⊎◌, inl, inr}
use mathlib.Core.List.{List}
use Prim.Native.Nat.{ℕ, zero, suc, ◌+◌, ◌-◌, ◌*◌, ◌/◌, ◌%◌, ◌^◌, ◌≤◌, ◌<◌}
use native.Mathlib.Nat.{mod-lt, zero-lt-suc, mod-eq_of_lt, pow-suc, mul_comm, mul_assoc, add-mul, add_assoc, mod-one}
use native.Mathlib.Numerals.{add-one}
use native.Mathlib.Decide.{dec_lt, ℕ_discrete}
use native.Mathlib.Omega.{arith}
use lib.ListN.{length, get_or, set, length-set}
use lib.Seq.{get_or-set_same, get_or-set_other}
use lib.Arith.{digits_lt, digits_mod}
use lib.Pow.{pow_pos, high, low, mod-pow-add, mod-mod-pow, shr-shr, field as pow-field}
use Rattle.bits.specs.Field.{bit_at, field, with_bit, set_bit, put_field}

-- ---- the length stays

pub length_set_bit : (s : List ℕ) (i b : ℕ) → length (set_bit s i b) ≡ length s
unfolding set_bit
length_set_bit s i b = length-set s (i / 8) (with_bit (get_or s (i / 8) 0) (7 - i % 8) b)

pub length_put : (s : List ℕ) (p w v : ℕ) → length (put_field s p w v) ≡ length s
unfolding put_field
length_put s p zero v = refl
length_put s p (suc w) v = length_set_bit (put_field s p w (v / 2)) (p + w) (v % 2) ∙ length_put s p w (v / 2)

-- ---- single bits

pub pow_one : (k : ℕ) → 2 ^ (k + 1) ≡ 2 * 2 ^ k
pow_one k = ap (λ (n : ℕ). 2 ^ n) (add-one k) ∙ pow-suc 2 k ∙ mul_comm (2 ^ k) 2

module _ (x j b : ℕ) (hb : b < 2) where
  -- what is above bit j stays
  with_high : with_bit x j b / 2 ^ (j + 1) ≡ x / 2 ^ (j + 1)
  unfolding with_bit
  with_high = high (x / 2 ^ (j + 1)) (j + 1) (rw (pow_one j) (digits_lt hb (mod-lt x (pow_pos j))))

  regroup : with_bit x j b ≡ (x / 2 ^ (j + 1) * 2 + b) * 2 ^ j + x % 2 ^ j
  unfolding with_bit
  regroup =
      sym (add_assoc (x / 2 ^ (j + 1) * 2 ^ (j + 1)) (b * 2 ^ j) (x % 2 ^ j))
      ∙ ap (λ (n : ℕ). n + b * 2 ^ j + x % 2 ^ j) (ap (λ (n : ℕ). x / 2 ^ (j + 1) * n) (pow_one j) ∙ sym (mul_assoc (x / 2 ^ (j + 1)) 2 (2 ^ j)))
      ∙ ap (λ (n : ℕ). n + x % 2 ^ j) (sym (add-mul (x / 2 ^ (j + 1) * 2) b (2 ^ j)))

  -- what is below bit j stays
  with_low : with_bit x j b % 2 ^ j ≡ x % 2 ^ j
  with_low = ap (λ (n : ℕ). n % 2 ^ j) regroup ∙ low (x / 2 ^ (j + 1) * 2 + b) j (mod-lt x (pow_pos j))

  with_at : with_bit x j b / 2 ^ j % 2 ≡ b
  with_at =
      ap (λ (n : ℕ). n / 2 ^ j % 2) regroup
      ∙ ap (λ (n : ℕ). n % 2) (high (x / 2 ^ (j + 1) * 2 + b) j (mod-lt x (pow_pos j)))
      ∙ digits_mod (x / 2 ^ (j + 1)) hb

-- a bit below j, by the low j bits
low_bit : (x i j : ℕ) → i < j → x % 2 ^ j / 2 ^ i % 2 ≡ x / 2 ^ i % 2
low_bit x i j h =
    let e : j ≡ j - (1 + i) + (1 + i) = omega arith in
    sym (pow-field (x % 2 ^ j) 1 i)
    ∙ ap (λ (n : ℕ). x % 2 ^ n % 2 ^ (1 + i) / 2 ^ i) e
    ∙ ap (λ (n : ℕ). n / 2 ^ i) (mod-mod-pow x (j - (1 + i)) (1 + i))
    ∙ pow-field x 1 i

high_bit : (x i j : ℕ) → j < i → x / 2 ^ (j + 1) / 2 ^ (i - (j + 1)) ≡ x / 2 ^ i
high_bit x i j h =
    let e : j + 1 + (i - (j + 1)) ≡ i = omega arith in
    shr-shr x (j + 1) (i - (j + 1)) ∙ ap (λ (n : ℕ). x / 2 ^ n) e

pub with_other : (x j b i : ℕ) → b < 2 → (i ≡ j → ⊥) → with_bit x j b / 2 ^ i % 2 ≡ x / 2 ^ i % 2
with_other x j b i hb n = go (dec_lt i j)
  where
    go : Dec (i < j) → with_bit x j b / 2 ^ i % 2 ≡ x / 2 ^ i % 2
    go (yes h) =
        sym (low_bit (with_bit x j b) i j h) ∙ ap (λ (m : ℕ). m / 2 ^ i % 2) (with_low x j b hb) ∙ low_bit x i j h
    go (no h) =
        let l : j < i = omega arith in
        ap (λ (m : ℕ). m % 2)
        (sym (high_bit (with_bit x j b) i j l) ∙ ap (λ (m : ℕ). m / 2 ^ (i - (j + 1))) (with_high x j b hb) ∙ high_bit x i j l)

pub bit_set_same : (s : List ℕ) (i b : ℕ) → i < length s * 8 → b < 2 → bit_at (set_bit s i b) i ≡ b
unfolding set_bit
bit_set_same s i b h hb =
    ap (λ (n : ℕ). n / 2 ^ (7 - i % 8) % 2) (get_or-set_same s (i / 8) (with_bit (get_or s (i / 8) 0) (7 - i % 8) b) 0 (omega arith))
    ∙ with_at (get_or s (i / 8) 0) (7 - i % 8) b hb

pub bit_set_other : (s : List ℕ) (i b k : ℕ) → i < length s * 8 → b < 2 → (k ≡ i → ⊥) → bit_at (set_bit s i b) k ≡ bit_at s k
unfolding set_bit
bit_set_other s i b k h hb n = go (ℕ_discrete (k / 8) (i / 8))
  where
    go : Dec (k / 8 ≡ i / 8) → bit_at (set s (i / 8) (with_bit (get_or s (i / 8) 0) (7 - i % 8) b)) k ≡ bit_at s k
    go (yes e) =
        let m : (7 - k % 8 ≡ 7 - i % 8 → ⊥) = λ q. n (omega arith) in
        ap (λ (z : ℕ). z / 2 ^ (7 - k % 8) % 2)
        (ap (λ (q : ℕ). get_or (set s (i / 8) (with_bit (get_or s (i / 8) 0) (7 - i % 8) b)) q 0) e
        ∙ get_or-set_same s (i / 8) (with_bit (get_or s (i / 8) 0) (7 - i % 8) b) 0 (omega arith))
        ∙ with_other (get_or s (i / 8) 0) (7 - i % 8) b (7 - k % 8) hb m
        ∙ ap (λ (q : ℕ). get_or s q 0 / 2 ^ (7 - k % 8) % 2) (sym e)
    go (no m) =
        ap (λ (z : ℕ). z / 2 ^ (7 - k % 8) % 2) (get_or-set_other s (i / 8) (k / 8) (with_bit (get_or s (i / 8) 0) (7 - i % 8) b) 0 m)

-- a bit outside the field stays
pub put_outside : (s : List ℕ) (p w v k : ℕ) → p + w ≤ length s * 8 → (k < p) ⊎ (p + w ≤ k) → bit_at (put_field s p w v) k ≡ bit_at s k
unfolding put_field
put_outside s p zero v k h o = refl
put_outside s p (suc w) v k h o =
    bit_set_other (put_field s p w (v / 2)) (p + w) (v % 2) k (rw (length_put s p w (v / 2)) (omega arith)) (mod-lt v (zero-lt-suc 1)) (ne o)
    ∙ put_outside s p w (v / 2) k (omega arith) (still o)
  where
    ne : (k < p) ⊎ (p + suc w ≤ k) → k ≡ p + w → ⊥
    ne (inl l) e = omega arith
    ne (inr l) e = omega arith

    still : (k < p) ⊎ (p + suc w ≤ k) → (k < p) ⊎ (p + w ≤ k)
    still (inl l) = inl l
    still (inr l) = inr (omega arith)

-- fields that agree on their bits
pub field_ext : (s t : List ℕ) (p w : ℕ) → ((i : ℕ) → p ≤ i → i < p + w → bit_at s i ≡ bit_at t i) → field s p w ≡ field t p w
unfolding field
field_ext s t p zero e = refl
field_ext s t p (suc w) e =
    ap₂ (λ (x y : ℕ). x * 2 + y) (field_ext s t p w (λ i l h. e i l (omega arith))) (e (p + w) (omega arith) (omega arith))

-- what is written is read back: the w low bits of v
pub read_back : (s : List ℕ) (p w v : ℕ) → p + w ≤ length s * 8 → field (put_field s p w v) p w ≡ v % 2 ^ w
unfolding field put_field
read_back s p zero v h = sym (mod-one v)
read_back s p (suc w) v h =
    let t = put_field s p w (v / 2) in
    let hl : p + w < length t * 8 = rw (length_put s p w (v / 2)) (omega arith) in
    ap₂ (λ (x y : ℕ). x * 2 + y)
    (field_ext (set_bit t (p + w) (v % 2)) t p w (λ i l k. bit_set_other t (p + w) (v % 2) i hl (mod-lt v (zero-lt-suc 1)) (λ e. omega arith))
    ∙ read_back s p w (v / 2) (omega arith))
    (bit_set_same t (p + w) (v % 2) hl (mod-lt v (zero-lt-suc 1)))
    ∙ sym (mod-pow-add v w 1)
    ∙ ap (λ (n : ℕ). v % 2 ^ n) (add-one w)

pub read_back_fits : (s : List ℕ) (p w v : ℕ) → p + w ≤ length s * 8 → v < 2 ^ w → field (put_field s p w v) p w ≡ v
read_back_fits s p w v h l = read_back s p w v h ∙ mod-eq_of_lt l
