-- No damage within 24 consecutive bits slips through. Assumes nothing.
use mathlib.Core.Path.{◌≡◌, refl, sym, ap, ap₂, ◌∙◌}
use mathlib.Core.Logic.{◌⊎◌, inl, inr}
use mathlib.Core.List.{List}
use Prim.Native.Nat.{ℕ, ◌+◌, ◌-◌, ◌*◌, ◌^◌, ◌≤◌, ◌<◌}
use native.Mathlib.Nat.{zero-add}
use native.Mathlib.Omega.{arith}
use lib.ListN.{length, take}
use mathlib.Core.Bool.{Bool, true, false}
use lib.Dec.{ltb}
use borrow.Author.Tests.{ltb-true, ltb-false}
use lib.Pow.{pow_pos}
use lib.Bits.{bit_xor, xor_self, xor_comm, xor_lt}
use Rattle.bits.specs.Crc.{crc, crc_bits}
use Rattle.bits.specs.Field.{bit_at, field}
use Rattle.bits.specs.Fields.{Bytes}
use Rattle.bits.proofs.CrcLaws.{crc_is, bits_zero}
use Rattle.bits.proofs.FieldLaws.{field_lt}
use Rattle.bits.proofs.SameBits.{same_bits, field_bits}
use Rattle.damage.specs.Damage.{Sealed, DifferWithin}
use Rattle.damage.proofs.BackLaws.{bits_back, xor_cancel}
use Rattle.damage.proofs.FeedLaws.{feed, feed_below, feed_append, feed_same, feed_back, feed_24, feed_bytes}

-- ---- a string that ends in its checksum leaves nothing

rest_of : (s : List ℕ) → Bytes s → Sealed s → feed 0 s 0 (length s * 8) ≡ 0
rest_of s b h =
    let n : ℕ = length s - 3 in
    let three : 3 ≤ length s = h.long in
    let e : length s * 8 ≡ n * 8 + 24 = omega arith in
    let front : feed 0 s 0 (n * 8) ≡ crc (take n s) = sym (crc_is (take n s) ∙ feed_bytes s b n 0 0 (omega arith)) in
    ap (feed 0 s 0) e
    ∙ feed_append 0 s 0 (n * 8) 24
    ∙ ap₂ (λ (c p : ℕ). feed c s p 24) front (zero-add (n * 8))
    ∙ feed_24 (crc (take n s)) s (n * 8)
    ∙ ap (λ (x : ℕ). crc_bits 24 (bit_xor x (crc (take n s)))) h.check
    ∙ ap (crc_bits 24) (xor_self (crc (take n s)))
    ∙ bits_zero 24

-- a place lies on the one side or on the other
sides : (i p : ℕ) → (i < p) ⊎ (p ≤ i)
sides i p = go (ltb i p) refl
  where
    go : (b : Bool) → ltb i p ≡ b → (i < p) ⊎ (p ≤ i)
    go true e = inl (ltb-true i p e)
    go false e = inr (ltb-false i p e)

-- ---- the run lies within the strings

module _ (s t : List ℕ) (bs : Bytes s) (bt : Bytes t) (e : length s ≡ length t) (p : ℕ) (fits : p + 24 ≤ length s * 8) (d : DifferWithin p 24 s t)
    (rest : feed 0 s 0 (length s * 8) ≡ feed 0 t 0 (length s * 8)) where
  abbrev k : ℕ
  k = length s * 8 - (p + 24)

  parts : (u : List ℕ) → feed 0 u 0 (length s * 8) ≡ feed (feed (feed 0 u 0 p) u p 24) u (p + 24) k
  parts u =
      let q : length s * 8 ≡ p + 24 + k = omega arith in
      ap (feed 0 u 0) q
      ∙ feed_append 0 u 0 (p + 24) k
      ∙ ap₂ (λ (c i : ℕ). feed c u i k) (feed_append 0 u 0 p 24 ∙ ap (λ (i : ℕ). feed (feed 0 u 0 p) u i 24) (zero-add p)) (zero-add (p + 24))

  before : feed 0 s 0 p ≡ feed 0 t 0 p
  before = feed_same s t 0 p (λ i a b. d.outside i (omega arith) (inl (omega arith))) refl

  small : (u : List ℕ) → feed (feed 0 u 0 p) u p 24 < 2 ^ 24
  small u = feed_below _ u p 24 (feed_below 0 u 0 p (pow_pos 24))

  after : feed (feed 0 s 0 p) s p 24 ≡ feed (feed 0 t 0 p) t p 24
  after =
      feed_back s t (p + 24) k _ _ (small s) (small t) (λ i a b. d.outside i (omega arith) (inr a))
      (sym (parts s) ∙ rest ∙ parts t)

  fields : field s p 24 ≡ field t p 24
  fields =
      let c : ℕ = feed 0 s 0 p in
      let below : c < 2 ^ 24 = feed_below 0 s 0 p (pow_pos 24) in
      let same : feed c s p 24 ≡ feed c t p 24 = after ∙ ap (λ (x : ℕ). feed x t p 24) (sym before) in
      let x : bit_xor (field s p 24) c ≡ bit_xor (field t p 24) c =
      bits_back 24 _ _ (xor_lt 24 _ _ (field_lt s p 24) below) (xor_lt 24 _ _ (field_lt t p 24) below)
      (sym (feed_24 c s p) ∙ same ∙ feed_24 c t p) in
      xor_cancel c _ _ (xor_comm c (field s p 24) ∙ x ∙ xor_comm (field t p 24) c)

  all : (i : ℕ) → i < length s * 8 → bit_at s i ≡ bit_at t i
  all i h = go (sides i p) (sides i (p + 24))
    where
      go : (i < p) ⊎ (p ≤ i) → (i < p + 24) ⊎ (p + 24 ≤ i) → bit_at s i ≡ bit_at t i
      go (inl a) b = d.outside i h (inl a)
      go (inr a) (inl b) = field_bits s t p 24 fields i a b
      go (inr a) (inr b) = d.outside i h (inr b)

  equal : s ≡ t
  equal = same_bits s t bs bt e all

-- ---- any run

-- a run that reaches past the end lies within the last 24 bits
nearer : (s t : List ℕ) (p : ℕ) → 3 ≤ length s → length s * 8 ≤ p + 24 → DifferWithin p 24 s t → DifferWithin (length s * 8 - 24) 24 s t
nearer s t p l h d = record { outside = λ i a c. d.outside i a (inl (go i a c)) }
  where
    go : (i : ℕ) → i < length s * 8 → (i < length s * 8 - 24) ⊎ (length s * 8 - 24 + 24 ≤ i) → i < p
    go i a (inl c) = omega arith
    go i a (inr c) = absurd (omega arith)

-- two byte strings of one length that are sealed and differ, if at all, within 24 consecutive bits are equal
same_but_for_24 : (s t : List ℕ) → Bytes s → Bytes t → length s ≡ length t → Sealed s → Sealed t
    → (p : ℕ) → DifferWithin p 24 s t → s ≡ t
same_but_for_24 s t bs bt e cs ct p d = go (sides (length s * 8) (p + 24))
  where
    rest : feed 0 s 0 (length s * 8) ≡ feed 0 t 0 (length s * 8)
    rest = rest_of s bs cs ∙ sym (rest_of t bt ct) ∙ ap (λ (n : ℕ). feed 0 t 0 (n * 8)) (sym e)

    go : (length s * 8 < p + 24) ⊎ (p + 24 ≤ length s * 8) → s ≡ t
    go (inl h) =
        let three : 3 ≤ length s = cs.long in
        equal s t bs bt e (length s * 8 - 24) (omega arith) (nearer s t p three (omega arith) d) rest
    go (inr h) = equal s t bs bt e p h d rest

-- Two different byte strings of equal length, each at least three bytes and each ending in the checksum of the bytes before, never differ only within a run of 24 consecutive bits.
pub no_burst : (s t : List ℕ) → Bytes s → Bytes t → length s ≡ length t → Sealed s → Sealed t
    → (s ≡ t → ⊥) → (p : ℕ) → DifferWithin p 24 s t → ⊥
no_burst s t bs bt e cs ct different p d = different (same_but_for_24 s t bs bt e cs ct p d)
