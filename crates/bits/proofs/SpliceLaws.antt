-- Several bits of one byte at a time. Assumes nothing.
use mathlib.Core.Path.{◌≡◌, sym, ap, ap₂, ◌∙◌}
use mathlib.Core.List.{List}
use Prim.Native.Nat.{ℕ, zero, suc, ◌+◌, ◌-◌, ◌*◌, ◌/◌, ◌%◌, ◌^◌, ◌≤◌, ◌<◌}
use native.Mathlib.Nat.{mod-lt, add_comm, add-zero, zero-add, add-suc, add_assoc, add-mul, mul_assoc, zero-mul, mod-one, div-one}
use native.Mathlib.Numerals.{add-one, one-add}
use native.Mathlib.Omega.{arith}
use lib.ListN.{length, get_or, set}
use lib.Seq.{get_or-set_same, set-set, set-get_or}
use lib.Arith.{digits_lt}
use lib.Pow.{pow_pos, pow-add, split, high, low, mod-pow-add, mod-mod-pow, shr-shr, shr_lt, shl_exact}
use Rattle.bits.specs.Field.{with_bit, set_bit, put_field}
use Rattle.bits.specs.Steps.{splice}
use Rattle.bits.proofs.FieldLaws.{part_digits}
use Rattle.bits.proofs.BitLaws.{pow_one}

-- first k bits, then m
pub put_split : (s : List ℕ) (p k m v : ℕ) → put_field s p (k + m) v ≡ put_field (put_field s p k (v / 2 ^ m)) (p + k) m v
unfolding put_field
put_split s p k zero v = ap₂ (put_field s p) (add-zero k) (sym (div-one v))
put_split s p k (suc m) v =
    ap (λ (n : ℕ). put_field s p n v) (add-suc k m)
    ∙ ap₂ (λ (t : List ℕ) (n : ℕ). set_bit t n (v % 2))
    (put_split s p k m (v / 2) ∙ ap (λ (n : ℕ). put_field (put_field s p k n) (p + k) m (v / 2)) (shr-shr v 1 m ∙ ap (λ (n : ℕ). v / 2 ^ n) (one-add m)))
    (sym (add_assoc p k m))

-- one bit more, below those that are there
splice_more : (x m j a b : ℕ) → with_bit (splice x m (j + 1) a) j b ≡ splice x (suc m) j (a * 2 + b)
unfolding splice with_bit
splice_more x m j a b =
    ap₂ (λ (h l : ℕ). h * 2 ^ (j + 1) + (b * 2 ^ j + l)) above below
    ∙ ap (λ (n : ℕ). n + (b * 2 ^ j + x % 2 ^ j)) (add-mul (hi * 2 ^ m) a (2 ^ (j + 1)) ∙ ap₂ (λ (y z : ℕ). y + z) (mul_assoc hi (2 ^ m) (2 ^ (j + 1)) ∙ ap (λ (n : ℕ). hi * n) (sym (pow-add 2 m (j + 1)))) (ap (λ (n : ℕ). a * n) (pow_one j) ∙ sym (mul_assoc a 2 (2 ^ j))))
    ∙ add_assoc (hi * 2 ^ (m + (j + 1))) (a * 2 * 2 ^ j) (b * 2 ^ j + x % 2 ^ j)
    ∙ ap (λ (n : ℕ). hi * 2 ^ (m + (j + 1)) + n) (sym (add_assoc (a * 2 * 2 ^ j) (b * 2 ^ j) (x % 2 ^ j)) ∙ ap (λ (n : ℕ). n + x % 2 ^ j) (sym (add-mul (a * 2) b (2 ^ j))))
    ∙ ap (λ (n : ℕ). x / 2 ^ n * 2 ^ n + ((a * 2 + b) * 2 ^ j + x % 2 ^ j)) same
  where
    hi : ℕ
    hi = x / 2 ^ (m + (j + 1))

    same : m + (j + 1) ≡ suc m + j
    same = omega arith

    regroup : hi * 2 ^ (m + (j + 1)) + (a * 2 ^ (j + 1) + x % 2 ^ (j + 1)) ≡ (hi * 2 ^ m + a) * 2 ^ (j + 1) + x % 2 ^ (j + 1)
    regroup =
        sym (add_assoc (hi * 2 ^ (m + (j + 1))) (a * 2 ^ (j + 1)) (x % 2 ^ (j + 1)))
        ∙ ap (λ (n : ℕ). n + a * 2 ^ (j + 1) + x % 2 ^ (j + 1)) (ap (λ (n : ℕ). hi * n) (pow-add 2 m (j + 1)) ∙ sym (mul_assoc hi (2 ^ m) (2 ^ (j + 1))))
        ∙ ap (λ (n : ℕ). n + x % 2 ^ (j + 1)) (sym (add-mul (hi * 2 ^ m) a (2 ^ (j + 1))))

    above : (hi * 2 ^ (m + (j + 1)) + (a * 2 ^ (j + 1) + x % 2 ^ (j + 1))) / 2 ^ (j + 1) ≡ hi * 2 ^ m + a
    above = ap (λ (n : ℕ). n / 2 ^ (j + 1)) regroup ∙ high (hi * 2 ^ m + a) (j + 1) (mod-lt x (pow_pos (j + 1)))

    low_mod : (y : ℕ) → y % 2 ^ (j + 1) % 2 ^ j ≡ y % 2 ^ j
    low_mod y = ap (λ (n : ℕ). y % 2 ^ n % 2 ^ j) (add_comm j 1) ∙ mod-mod-pow y 1 j

    below : (hi * 2 ^ (m + (j + 1)) + (a * 2 ^ (j + 1) + x % 2 ^ (j + 1))) % 2 ^ j ≡ x % 2 ^ j
    below =
        sym (low_mod (hi * 2 ^ (m + (j + 1)) + (a * 2 ^ (j + 1) + x % 2 ^ (j + 1))))
        ∙ ap (λ (n : ℕ). n % 2 ^ (j + 1) % 2 ^ j) regroup
        ∙ ap (λ (n : ℕ). n % 2 ^ j) (low (hi * 2 ^ m + a) (j + 1) (mod-lt x (pow_pos (j + 1))))
        ∙ low_mod x

splice_none : (x j : ℕ) → splice x 0 j 0 ≡ x
unfolding splice
splice_none x j =
    ap₂ (λ (n l : ℕ). x / 2 ^ n * 2 ^ n + (l + x % 2 ^ j)) (zero-add j) (zero-mul (2 ^ j))
    ∙ ap (λ (n : ℕ). x / 2 ^ j * 2 ^ j + n) (zero-add (x % 2 ^ j))
    ∙ split x j

-- a field within one byte
pub put_byte : (s : List ℕ) (q m v : ℕ) → q % 8 + m ≤ 8 → q < length s * 8
    → put_field s q m v ≡ set s (q / 8) (splice (get_or s (q / 8) 0) m (8 - q % 8 - m) (v % 2 ^ m))
unfolding put_field set_bit
put_byte s q zero v h l =
    sym (ap (set s (q / 8)) (ap (splice (get_or s (q / 8) 0) 0 (8 - q % 8 - 0)) (mod-one v) ∙ splice_none (get_or s (q / 8) 0) (8 - q % 8 - 0)) ∙ set-get_or s (q / 8) 0)
put_byte s q (suc m) v h l =
    let i = q / 8 in
    let x = get_or s (q / 8) 0 in
    let y = splice (get_or s (q / 8) 0) m (8 - q % 8 - m) (v / 2 % 2 ^ m) in
    let e1 : (q + m) / 8 ≡ q / 8 = omega arith in
    let e2 : 7 - (q + m) % 8 ≡ 8 - q % 8 - suc m = omega arith in
    let e3 : 8 - q % 8 - m ≡ 8 - q % 8 - suc m + 1 = omega arith in
    ap (λ (t : List ℕ). set_bit t (q + m) (v % 2)) (put_byte s q m (v / 2) (omega arith) l)
    ∙ ap₂ (λ (a b : ℕ). set (set s i y) a (with_bit (get_or (set s i y) a 0) b (v % 2))) e1 e2
    ∙ set-set s i y (with_bit (get_or (set s i y) i 0) (8 - q % 8 - suc m) (v % 2))
    ∙ ap (λ (z : ℕ). set s i (with_bit z (8 - q % 8 - suc m) (v % 2))) (get_or-set_same s i y 0 (omega arith) ∙ ap (λ (n : ℕ). splice x m n (v / 2 % 2 ^ m)) e3)
    ∙ ap (set s i)
    (splice_more x m (8 - q % 8 - suc m) (v / 2 % 2 ^ m) (v % 2)
    ∙ ap (splice x (suc m) (8 - q % 8 - suc m)) (sym (mod-pow-add v m 1) ∙ ap (λ (n : ℕ). v % 2 ^ n) (add-one m)))

-- ---- as 64-bit code shifts it

-- the low m bits, by two shifts
pub low_bits : (v m : ℕ) → m ≤ 64 → v * 2 ^ (64 - m) % 2 ^ 64 / 2 ^ (64 - m) ≡ v % 2 ^ m
low_bits v m h =
    let e : 64 - (64 - m) - m ≡ 0 = omega arith in
    part_digits 64 v (64 - m) m (omega arith)
    ∙ ap (λ (n : ℕ). v / 2 ^ n % 2 ^ m) e
    ∙ ap (λ (n : ℕ). n % 2 ^ m) (div-one v)

pub splice_lt : (n x m j b : ℕ) → x < 2 ^ n → m + j ≤ n → b < 2 ^ m → splice x m j b < 2 ^ n
unfolding splice
splice_lt n x m j b hx h hb =
    let e : 2 ^ n ≡ 2 ^ (n - (m + j) + (m + j)) = ap (λ (k : ℕ). 2 ^ k) (omega arith) in
    let hy : x < 2 ^ (n - (m + j) + (m + j)) = omega (arith, e, hx) in
    let low : b * 2 ^ j + x % 2 ^ j < 2 ^ (m + j) = rw (pow-add 2 m j) (digits_lt hb (mod-lt x (pow_pos j))) in
    rw (e ∙ pow-add 2 (n - (m + j)) (m + j)) (digits_lt (shr_lt {n = x} (n - (m + j)) (m + j) hy) low)

-- what is above m bits, they themselves, and what is below
parts : (x m j : ℕ) → x / 2 ^ (m + j) * 2 ^ (m + j) + (x / 2 ^ j % 2 ^ m * 2 ^ j + x % 2 ^ j) ≡ x
parts x m j = ap (λ (n : ℕ). x / 2 ^ (m + j) * 2 ^ (m + j) + n) (sym (mod-pow-add x m j)) ∙ split x (m + j)

module _ (x m j v : ℕ) (hx : x < 2 ^ 64) (h : m + j ≤ 64) where
  -- the low m bits of y, put j bits up
  lifted : (y : ℕ) → y * 2 ^ (64 - m) % 2 ^ 64 / 2 ^ (64 - m) * 2 ^ j % 2 ^ 64 ≡ y % 2 ^ m * 2 ^ j
  lifted y = ap (λ (n : ℕ). n * 2 ^ j % 2 ^ 64) (low_bits y m (omega arith)) ∙ shl_exact m j 64 (mod-lt y (pow_pos m)) h

  pub splice_code :
      (x / 2 ^ j * 2 ^ (64 - m) % 2 ^ 64 / 2 ^ (64 - m) * 2 ^ j % 2 ^ 64 ≤ x)
      × (x - x / 2 ^ j * 2 ^ (64 - m) % 2 ^ 64 / 2 ^ (64 - m) * 2 ^ j % 2 ^ 64 + v * 2 ^ (64 - m) % 2 ^ 64 / 2 ^ (64 - m) * 2 ^ j % 2 ^ 64 ≡ splice x m j (v % 2 ^ m))
  unfolding splice
  splice_code = rw (lifted (x / 2 ^ j), lifted v) (
      let e = parts x m j in (
        omega (arith, e),
        omega (arith, e),
      ))

  pub splice_word : splice x m j (v % 2 ^ m) < 2 ^ 64
  splice_word = splice_lt 64 x m j (v % 2 ^ m) hx h (mod-lt v (pow_pos m))

-- one turn of the fast loop
pub put_chunk : (s₀ s : List ℕ) (p k m v w : ℕ) → s ≡ put_field s₀ p k (v / 2 ^ (w - k)) → (p + k) % 8 + m ≤ 8 → k + m ≤ w
    → p + k < length s * 8
    → set s ((p + k) / 8) (splice (get_or s ((p + k) / 8) 0) m (8 - (p + k) % 8 - m) (v / 2 ^ (w - k - m) % 2 ^ m))
    ≡ put_field s₀ p (k + m) (v / 2 ^ (w - (k + m)))
put_chunk s₀ s p k m v w e h l r =
    let d : w - (k + m) ≡ w - k - m = omega arith in
    let f : w - k - m + m ≡ w - k = omega arith in
    sym (ap (λ (n : ℕ). put_field s₀ p (k + m) (v / 2 ^ n)) d
    ∙ put_split s₀ p k m (v / 2 ^ (w - k - m))
    ∙ ap (λ (n : ℕ). put_field (put_field s₀ p k n) (p + k) m (v / 2 ^ (w - k - m))) (shr-shr v (w - k - m) m ∙ ap (λ (n : ℕ). v / 2 ^ n) f)
    ∙ ap (λ (t : List ℕ). put_field t (p + k) m (v / 2 ^ (w - k - m))) (sym e)
    ∙ put_byte s (p + k) m (v / 2 ^ (w - k - m)) h r)
