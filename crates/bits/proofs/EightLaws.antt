-- Writing a field by writing the eight bytes around it. Assumes nothing.
use mathlib.Core.Path.{◌≡◌, refl, sym, ap, ap₂, ◌∙◌}
use mathlib.Core.Logic.{inl, inr}
use mathlib.Core.List.{List}
use Prim.Native.Nat.{ℕ, ◌+◌, ◌-◌, ◌*◌, ◌/◌, ◌%◌, ◌^◌, ◌≤◌, ◌<◌}
use native.Mathlib.Nat.{add_assoc, add-zero, div-one}
use native.Mathlib.Omega.{arith}
use lib.ListN.{length, get_or, set}
use lib.Pow.{high, low}
use native.Mathlib.Decide.{dec_lt}
use Rattle.bits.specs.Field.{field, put_field, bit_at}
use Rattle.bits.specs.Fields.{Bytes}
use Rattle.bits.specs.Steps.{splice}
use Rattle.bits.proofs.FieldLaws.{field_split, field_lt}
use Rattle.bits.proofs.BitLaws.{length_put, put_outside, field_ext, read_back, read_back_fits}
use Rattle.bits.proofs.SameBits.{same_bits, field_bits, bytes_put}
use Rattle.bits.proofs.SpliceLaws.{put_chunk}

-- ---- eight bytes, one after the other

splice_all : (x b : ℕ) → x < 256 → splice x 8 0 b ≡ b
unfolding splice
splice_all x b h = omega arith

-- once k bytes of the number are written, the next one
pub next_byte : (s₀ s : List ℕ) (i k v : ℕ) → s ≡ put_field s₀ (i * 8) (k * 8) (v / 2 ^ (64 - k * 8)) → k < 8 → i + k < length s → Bytes s
    → set s (i + k) (v / 2 ^ (56 - k * 8) % 256) ≡ put_field s₀ (i * 8) ((k + 1) * 8) (v / 2 ^ (64 - (k + 1) * 8))
next_byte s₀ s i k v e h l b =
    let at : (i * 8 + k * 8) / 8 ≡ i + k = omega arith in
    let on : (i * 8 + k * 8) % 8 ≡ 0 = omega arith in
    let d : 64 - k * 8 - 8 ≡ 56 - k * 8 = omega arith in
    let n : k * 8 + 8 ≡ (k + 1) * 8 = omega arith in
    sym (ap₂ (λ (j o : ℕ). set s j (splice (get_or s j 0) 8 (8 - o - 8) (v / 2 ^ (64 - k * 8 - 8) % 2 ^ 8))) at on
    ∙ ap (set s (i + k)) (splice_all (get_or s (i + k) 0) (v / 2 ^ (64 - k * 8 - 8) % 2 ^ 8) (b.byte (i + k)) ∙ ap (λ (m : ℕ). v / 2 ^ m % 2 ^ 8) d))
    ∙ put_chunk s₀ s (i * 8) (k * 8) 8 v 64 e (omega arith) (omega arith) (omega arith)
    ∙ ap (λ (m : ℕ). put_field s₀ (i * 8) m (v / 2 ^ (64 - m))) n

module _ (s : List ℕ) (i v : ℕ) (h : i + 8 ≤ length s) (b : Bytes s) where
  -- after k bytes
  abbrev part : ℕ → List ℕ
  part k = put_field s (i * 8) (k * 8) (v / 2 ^ (64 - k * 8))

  turn : (k : ℕ) → k < 8 → set (part k) (i + k) (v / 2 ^ (56 - k * 8) % 256) ≡ part (k + 1)
  turn k l = next_byte s (part k) i k v refl l (rw (length_put s (i * 8) (k * 8) (v / 2 ^ (64 - k * 8))) (omega arith)) (bytes_put s (i * 8) (k * 8) _ (omega arith) b)

  -- all eight
  pub eight_written :
      set (set (set (set (set (set (set (set s i (v / 2 ^ 56 % 256)) (i + 1) (v / 2 ^ 48 % 256)) (i + 2) (v / 2 ^ 40 % 256)) (i + 3) (v / 2 ^ 32 % 256)) (i + 4) (v / 2 ^ 24 % 256)) (i + 5) (v / 2 ^ 16 % 256)) (i + 6) (v / 2 ^ 8 % 256)) (i + 7) (v % 256)
      ≡ put_field s (i * 8) 64 v
  unfolding put_field
  eight_written =
      let e1 : set s i (v / 2 ^ 56 % 256) ≡ part 1 = ap (λ (j : ℕ). set s j (v / 2 ^ 56 % 256)) (sym (add-zero i)) ∙ turn 0 (omega arith) in
      let e2 : _ ≡ part 2 = ap (λ (t : List ℕ). set t (i + 1) (v / 2 ^ 48 % 256)) e1 ∙ turn 1 (omega arith) in
      let e3 : _ ≡ part 3 = ap (λ (t : List ℕ). set t (i + 2) (v / 2 ^ 40 % 256)) e2 ∙ turn 2 (omega arith) in
      let e4 : _ ≡ part 4 = ap (λ (t : List ℕ). set t (i + 3) (v / 2 ^ 32 % 256)) e3 ∙ turn 3 (omega arith) in
      let e5 : _ ≡ part 5 = ap (λ (t : List ℕ). set t (i + 4) (v / 2 ^ 24 % 256)) e4 ∙ turn 4 (omega arith) in
      let e6 : _ ≡ part 6 = ap (λ (t : List ℕ). set t (i + 5) (v / 2 ^ 16 % 256)) e5 ∙ turn 5 (omega arith) in
      let e7 : _ ≡ part 7 = ap (λ (t : List ℕ). set t (i + 6) (v / 2 ^ 8 % 256)) e6 ∙ turn 6 (omega arith) in
      ap₂ (λ (t : List ℕ) (x : ℕ). set t (i + 7) (x % 256)) e7 (sym (div-one v)) ∙ turn 7 (omega arith) ∙ ap (put_field s (i * 8) 64) (div-one v)

-- ---- a field within a longer one

module _ (s : List ℕ) (q o w j v : ℕ) (h : q + (o + (w + j)) ≤ length s * 8) where
  abbrev t : List ℕ
  t = put_field s (q + o) w v

  before : field t q o ≡ field s q o
  before = field_ext t s q o (λ i l k. put_outside s (q + o) w v i (omega arith) (inl k))

  behind : field t (q + o + w) j ≡ field s (q + o + w) j
  behind = field_ext t s (q + o + w) j (λ i l k. put_outside s (q + o) w v i (omega arith) (inr l))

  -- the longer one, after the w bits o bits behind its start are written
  around : field t q (o + (w + j)) ≡ splice (field s q (o + (w + j))) w j (v % 2 ^ w)
  unfolding splice
  around =
      field_split t q o (w + j)
      ∙ ap₂ (λ (x y : ℕ). x * 2 ^ (w + j) + y) (before ∙ sym above) (field_split t (q + o) w j ∙ ap₂ (λ (x y : ℕ). x * 2 ^ j + y) (read_back s (q + o) w v (omega arith)) (behind ∙ sym below))
    where
      above : field s q (o + (w + j)) / 2 ^ (w + j) ≡ field s q o
      above = ap (λ (x : ℕ). x / 2 ^ (w + j)) (field_split s q o (w + j)) ∙ high (field s q o) (w + j) (field_lt s (q + o) (w + j))

      below : field s q (o + (w + j)) % 2 ^ j ≡ field s (q + o + w) j
      below =
          ap (λ (n : ℕ). field s q n % 2 ^ j) (sym (add_assoc o w j))
          ∙ ap (λ (x : ℕ). x % 2 ^ j) (field_split s q (o + w) j)
          ∙ low (field s q (o + w)) j (field_lt s (q + (o + w)) j)
          ∙ ap (λ (n : ℕ). field s n j) (sym (add_assoc q o w))

  -- so writing the longer one with the w bits in their place writes them
  pub put_around : Bytes s → put_field s q (o + (w + j)) (splice (field s q (o + (w + j))) w j (v % 2 ^ w)) ≡ put_field s (q + o) w v
  put_around b =
      ap (put_field s q (o + (w + j))) (sym around)
      ∙ same_bits u t (bytes_put s q (o + (w + j)) _ h b) (bytes_put s (q + o) w v (omega arith) b) (length_put s q (o + (w + j)) _ ∙ sym (length_put s (q + o) w v)) (λ i l. left i (dec_lt i q))
    where
      u : List ℕ
      u = put_field s q (o + (w + j)) (field t q (o + (w + j)))

      right : (i : ℕ) → q ≤ i → Dec (i < q + (o + (w + j))) → bit_at u i ≡ bit_at t i
      right i a (yes k) = field_bits u t q (o + (w + j)) (read_back_fits s q (o + (w + j)) (field t q (o + (w + j))) h (field_lt t q (o + (w + j)))) i a k
      right i a (no k) =
          put_outside s q (o + (w + j)) (field t q (o + (w + j))) i h (inr (omega arith))
          ∙ sym (put_outside s (q + o) w v i (omega arith) (inr (omega arith)))

      left : (i : ℕ) → Dec (i < q) → bit_at u i ≡ bit_at t i
      left i (yes a) =
          put_outside s q (o + (w + j)) (field t q (o + (w + j))) i h (inl a)
          ∙ sym (put_outside s (q + o) w v i (omega arith) (inl (omega arith)))
      left i (no a) = right i (omega arith) (dec_lt i (q + (o + (w + j))))
