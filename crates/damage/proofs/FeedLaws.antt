-- The checksum fed bit by bit, from any bit on. Assumes nothing.
use mathlib.Core.Path.{◌≡◌, refl, sym, ap, ap₂, ◌∙◌}
use mathlib.Core.List.{List}
use Prim.Native.Nat.{ℕ, zero, suc, ◌+◌, ◌*◌, ◌^◌, ◌≤◌, ◌<◌}
use native.Mathlib.Nat.{mul-one, mul_assoc, add-mul, zero-mul, mul-lt-mul_of_pos_right, pow-succ', add_assoc, add-suc, add-zero}
use native.Mathlib.Omega.{arith}
use lib.ListN.{length, get_or, take, drop}
use lib.Seq.{drop-cons}
use lib.Pow.{pow-add, pow_pos}
use lib.Bits.{bit_xor, xor_shifted, xor_zero_l, xor_comm, xor_lt}
use Rattle.bits.specs.Crc.{crc_bit, crc_bits, crc_byte, crc_from}
use Rattle.bits.specs.Field.{bit_at, field}
use Rattle.bits.specs.Fields.{Bytes}
use Rattle.bits.proofs.CrcLaws.{bits_none, bits_more, byte_is, from_nil, from_cons, bits_linear, bits_shift, bit_below}
use Rattle.bits.proofs.FieldLaws.{bit_lt, field_none, field_more, field_whole}
use Rattle.bits.proofs.XorLaws.{xor_assoc}
use Rattle.damage.proofs.BackLaws.{bit_back, xor_cancel}

-- w bits of s, from bit p on, one after the other into the top of the sum
unfoldable pub feed : ℕ → List ℕ → ℕ → ℕ → ℕ
feed c s p zero = c
feed c s p (suc w) = crc_bit (bit_xor (bit_at s (p + w) * 2 ^ 23) (feed c s p w))

-- ---- any bits

pub feed_below : (c : ℕ) (s : List ℕ) (p w : ℕ) → c < 2 ^ 24 → feed c s p w < 2 ^ 24
unfolding feed
feed_below c s p zero h = h
feed_below c s p (suc w) h = bit_below _

pub feed_append : (c : ℕ) (s : List ℕ) (p w v : ℕ) → feed c s p (w + v) ≡ feed (feed c s p w) s (p + w) v
unfolding feed
feed_append c s p w zero = rw add-zero
feed_append c s p w (suc v) =
    rw (add-suc w v) (ap₂ (λ (i x : ℕ). crc_bit (bit_xor (bit_at s i * 2 ^ 23) x)) (sym (add_assoc p w v)) (feed_append c s p w v))

-- ---- the same bits

top_below : (s : List ℕ) (i : ℕ) → bit_at s i * 2 ^ 23 < 2 ^ 24
top_below s i = let h : bit_at s i < 2 = bit_lt s i in omega arith

module _ (s t : List ℕ) (p : ℕ) where
  abbrev pub Alike : ℕ → Type 0
  Alike w = (i : ℕ) → p ≤ i → i < p + w → bit_at s i ≡ bit_at t i

  shorter : (w : ℕ) → Alike (suc w) → Alike w
  shorter w h i a b = h i a (omega arith)

  pub feed_same : (w : ℕ) {c d : ℕ} → Alike w → c ≡ d → feed c s p w ≡ feed d t p w
  unfolding feed
  feed_same zero h e = e
  feed_same (suc w) h e =
      ap₂ (λ (b x : ℕ). crc_bit (bit_xor (b * 2 ^ 23) x)) (h (p + w) (omega arith) (omega arith)) (feed_same w (shorter w h) e)

  -- what was fed the same bits to the same sum was the same before
  pub feed_back : (w c d : ℕ) → c < 2 ^ 24 → d < 2 ^ 24 → Alike w → feed c s p w ≡ feed d t p w → c ≡ d
  unfolding feed
  feed_back zero c d hc hd h e = e
  feed_back (suc w) c d hc hd h e =
      feed_back w c d hc hd (shorter w h)
      (xor_cancel (bit_at s (p + w) * 2 ^ 23) (feed c s p w) (feed d t p w)
      (bit_back (bit_xor (bit_at s (p + w) * 2 ^ 23) (feed c s p w)) (bit_xor (bit_at s (p + w) * 2 ^ 23) (feed d t p w))
      (xor_lt 24 _ _ (top_below s (p + w)) (feed_below c s p w hc))
      (xor_lt 24 _ _ (top_below s (p + w)) (feed_below d t p w hd))
      (e ∙ ap (λ (b : ℕ). crc_bit (bit_xor (b * 2 ^ 23) (feed d t p w))) (sym (h (p + w) (omega arith) (omega arith))))))

-- ---- up to 24 bits at once

-- a bit behind the others, in the right place
behind : (f b m : ℕ) → b < 2 → (f * 2 + b) * 2 ^ m ≡ bit_xor (b * 2 ^ m) (f * 2 ^ suc m)
behind f b m h =
    let g : b * 2 ^ m < 2 ^ suc m = rw (pow-succ' 2 m) (mul-lt-mul_of_pos_right h (pow_pos m)) in
    let e : (f * 2 + b) * 2 ^ m ≡ f * 2 ^ suc m + b * 2 ^ m = add-mul (f * 2) b (2 ^ m) ∙ ap (λ (n : ℕ). n + b * 2 ^ m) (mul_assoc f 2 (2 ^ m) ∙ ap (λ (n : ℕ). f * n) (sym (pow-succ' 2 m))) in
    e ∙ sym (xor_shifted f (suc m) (b * 2 ^ m) g) ∙ xor_comm (f * 2 ^ suc m) (b * 2 ^ m)

module _ (c : ℕ) (s : List ℕ) (p : ℕ) where
  -- a bit in its place goes to the top
  rises : (w m b : ℕ) → w + m ≡ 23 → b < 2 → b * 2 ^ 23 ≡ crc_bits w (b * 2 ^ m)
  rises w m b e h =
      let q : m + w ≡ 23 = omega arith in
      let z : b * 2 ^ m * 2 ^ w ≡ b * 2 ^ 23 = mul_assoc b (2 ^ m) (2 ^ w) ∙ ap (λ (n : ℕ). b * n) (sym (pow-add 2 m w) ∙ ap (λ (n : ℕ). 2 ^ n) q) in
      sym (bits_shift w (b * 2 ^ m) (rw z (omega arith)) ∙ z)

  -- with m bits of room left below, and one more taken
  one_more : (w m : ℕ) → w + m ≡ 23 → feed c s p w ≡ crc_bits w (bit_xor (field s p w * 2 ^ suc m) c)
      → feed c s p (suc w) ≡ crc_bits (suc w) (bit_xor (field s p (suc w) * 2 ^ m) c)
  unfolding feed
  one_more w m e ih =
      ap crc_bit
      (ap₂ bit_xor (rises w m (bit_at s (p + w)) e (bit_lt s (p + w))) ih
      ∙ sym (bits_linear w (bit_at s (p + w) * 2 ^ m) (bit_xor (field s p w * 2 ^ suc m) c))
      ∙ ap (crc_bits w) (sym (xor_assoc (bit_at s (p + w) * 2 ^ m) (field s p w * 2 ^ suc m) c) ∙ ap (λ (n : ℕ). bit_xor n c) (sym (behind (field s p w) (bit_at s (p + w)) m (bit_lt s (p + w))) ∙ ap (λ (x : ℕ). x * 2 ^ m) (sym (field_more s p w)))))
      ∙ sym (bits_more w (bit_xor (field s p (suc w) * 2 ^ m) c))

  fed : (w m : ℕ) → w + m ≡ 24 → feed c s p w ≡ crc_bits w (bit_xor (field s p w * 2 ^ m) c)
  unfolding feed
  fed zero m e = rw (bits_none (bit_xor (field s p 0 * 2 ^ m) c), field_none s p, zero-mul (2 ^ m)) (sym (xor_zero_l c))
  fed (suc w) m e = one_more w m (omega arith) (fed w (suc m) (omega arith))

  pub feed_24 : feed c s p 24 ≡ crc_bits 24 (bit_xor (field s p 24) c)
  feed_24 = fed 24 0 refl ∙ ap (λ (n : ℕ). crc_bits 24 (bit_xor n c)) (mul-one (field s p 24))

  pub feed_8 : feed c s p 8 ≡ crc_byte c (field s p 8)
  feed_8 = fed 8 16 refl ∙ sym (byte_is c (field s p 8))

-- ---- bytes

module _ (s : List ℕ) (b : Bytes s) where
  -- the checksum of k bytes from byte i on, continued from c
  pub feed_bytes : (k i c : ℕ) → i + k ≤ length s → crc_from c (take k (drop i s)) ≡ feed c s (i * 8) (k * 8)
  unfolding feed
  feed_bytes zero i c h = from_nil c
  feed_bytes (suc k) i c h =
      let e : suc k * 8 ≡ 8 + k * 8 = omega arith in
      let q : i * 8 + 8 ≡ suc i * 8 = omega arith in
      let one : feed c s (i * 8) 8 ≡ crc_byte c (get_or s i 0) = feed_8 c s (i * 8) ∙ ap (crc_byte c) (field_whole s i (b.byte i)) in
      rw (drop-cons s i 0 (omega arith))
      (from_cons c (get_or s i 0) (take k (drop (suc i) s))
      ∙ feed_bytes k (suc i) (crc_byte c (get_or s i 0)) (omega arith)
      ∙ ap₂ (λ (x y : ℕ). feed x s y (k * 8)) (sym one) (sym q)
      ∙ sym (feed_append c s (i * 8) 8 (k * 8))
      ∙ ap (feed c s (i * 8)) (sym e))
