-- Lists of bytes with the same bits are the same; single bits of a field, read and written; a field written where it was read. Assumes nothing.
use mathlib.Core.Path.{◌≡◌, sym, ap, ◌∙◌}
use mathlib.Core.Logic.{inl, inr}
use mathlib.Core.List.{List}
use Prim.Native.Nat.{ℕ, zero, suc, ◌+◌, ◌-◌, ◌*◌, ◌/◌, ◌%◌, ◌^◌, ◌≤◌, ◌<◌}
use native.Mathlib.Nat.{add_comm, mod-lt, zero-lt-suc, div-one}
use native.Mathlib.Decide.{dec_lt, ℕ_discrete}
use native.Mathlib.Omega.{arith}
use lib.ListN.{length, get_or, set}
use lib.Seq.{ext_get_or, get_or-set_same, get_or-set_other}
use lib.Arith.{digits_div, digits_mod}
use lib.Pow.{shr-shr}
use Rattle.bits.specs.Field.{bit_at, field, put_field, set_bit, with_bit}
use Rattle.bits.specs.Fields.{Bytes}
use Rattle.bits.specs.Steps.{splice}
use Rattle.bits.proofs.FieldLaws.{field_whole, field_lt, bit_lt}
use Rattle.bits.proofs.BitLaws.{length_put, field_ext, put_outside, read_back_fits}
use Rattle.bits.proofs.SpliceLaws.{splice_lt}

-- lists of bytes with equal bits are equal
pub same_bits : (s t : List ℕ) → Bytes s → Bytes t → length s ≡ length t → ((i : ℕ) → i < length s * 8 → bit_at s i ≡ bit_at t i) → s ≡ t
same_bits s t bs bt l e =
    ext_get_or 0 s t l (λ i h.
    sym (field_whole s i (bs.byte i))
    ∙ field_ext s t (i * 8) 8 (λ k a b. e k (omega arith))
    ∙ field_whole t i (bt.byte i))

-- bit k of a field of w bits, as its number has it
pub field_bit : (s : List ℕ) (p w k : ℕ) → k < w → field s p w / 2 ^ (w - 1 - k) % 2 ≡ bit_at s (p + k)
unfolding field
field_bit s p zero k h = absurd (omega arith)
field_bit s p (suc w) k h = go (λ l. field_bit s p w k l) (dec_lt k w)
  where
    go : (k < w → field s p w / 2 ^ (w - 1 - k) % 2 ≡ bit_at s (p + k)) → Dec (k < w) → (field s p w * 2 + bit_at s (p + w)) / 2 ^ (suc w - 1 - k) % 2 ≡ bit_at s (p + k)
    go ih (yes l) =
        let e : suc w - 1 - k ≡ 1 + (w - 1 - k) = omega arith in
        ap (λ (n : ℕ). (field s p w * 2 + bit_at s (p + w)) / 2 ^ n % 2) e
        ∙ ap (λ (n : ℕ). n % 2) (sym (shr-shr (field s p w * 2 + bit_at s (p + w)) 1 (w - 1 - k)))
        ∙ ap (λ (n : ℕ). n / 2 ^ (w - 1 - k) % 2) (digits_div (field s p w) (bit_lt s (p + w)))
        ∙ ih l
    go ih (no l) =
        let e : suc w - 1 - k ≡ 0 = omega arith in
        let d : k ≡ w = omega arith in
        ap (λ (n : ℕ). (field s p w * 2 + bit_at s (p + w)) / 2 ^ n % 2) e
        ∙ ap (λ (n : ℕ). n % 2) (div-one (field s p w * 2 + bit_at s (p + w)))
        ∙ digits_mod (field s p w) (bit_lt s (p + w))
        ∙ ap (λ (n : ℕ). bit_at s (p + n)) (sym d)

-- two lists of which one field is the same number agree on its bits
pub field_bits : (s t : List ℕ) (p w : ℕ) → field s p w ≡ field t p w → (i : ℕ) → p ≤ i → i < p + w → bit_at s i ≡ bit_at t i
field_bits s t p w e i a b =
    let d : i ≡ p + (i - p) = omega arith in
    ap (bit_at s) d
    ∙ sym (field_bit s p w (i - p) (omega arith))
    ∙ ap (λ (n : ℕ). n / 2 ^ (w - 1 - (i - p)) % 2) e
    ∙ field_bit t p w (i - p) (omega arith)
    ∙ ap (bit_at t) (sym d)

-- a byte with one bit changed is a byte
with_bit_lt : (x j b : ℕ) → x < 256 → j < 8 → b < 2 → with_bit x j b < 256
unfolding with_bit splice
with_bit_lt x j b hx hj hb =
    rw (add_comm j 1) (splice_lt 8 x 1 j b hx (omega arith) hb)

-- writing keeps bytes bytes
bytes_set_bit : (s : List ℕ) (i b : ℕ) → i < length s * 8 → b < 2 → Bytes s → Bytes (set_bit s i b)
unfolding set_bit
bytes_set_bit s i b h hb bs = record { byte = λ k. go k (ℕ_discrete k (i / 8)) }
  where
    new : ℕ
    new = with_bit (get_or s (i / 8) 0) (7 - i % 8) b

    go : (k : ℕ) → Dec (k ≡ i / 8) → get_or (set s (i / 8) new) k 0 < 256
    go k (yes e) = rw (e, get_or-set_same s (i / 8) new 0 (omega arith)) (with_bit_lt (get_or s (i / 8) 0) (7 - i % 8) b (bs.byte (i / 8)) (omega arith) hb)
    go k (no n) = rw (get_or-set_other s (i / 8) k new 0 n) (bs.byte k)

pub bytes_put : (s : List ℕ) (p w v : ℕ) → p + w ≤ length s * 8 → Bytes s → Bytes (put_field s p w v)
unfolding put_field
bytes_put s p zero v h bs = bs
bytes_put s p (suc w) v h bs =
    bytes_set_bit (put_field s p w (v / 2)) (p + w) (v % 2) (rw (length_put s p w (v / 2)) (omega arith)) (mod-lt v (zero-lt-suc 1))
    (bytes_put s p w (v / 2) (omega arith) bs)

-- a field written where it was read changes nothing
pub put_same : (s : List ℕ) (p w : ℕ) → p + w ≤ length s * 8 → Bytes s → put_field s p w (field s p w) ≡ s
put_same s p w h bs =
    same_bits t s (bytes_put s p w (field s p w) h bs) bs (length_put s p w (field s p w)) (λ i l. low i (dec_lt i p))
  where
    t : List ℕ
    t = put_field s p w (field s p w)

    high : (i : ℕ) → p ≤ i → Dec (i < p + w) → bit_at t i ≡ bit_at s i
    high i a (yes b) = field_bits t s p w (read_back_fits s p w (field s p w) h (field_lt s p w)) i a b
    high i a (no b) = put_outside s p w (field s p w) i h (inr (omega arith))

    low : (i : ℕ) → Dec (i < p) → bit_at t i ≡ bit_at s i
    low i (yes a) = put_outside s p w (field s p w) i h (inl a)
    low i (no a) = high i (omega arith) (dec_lt i (p + w))
