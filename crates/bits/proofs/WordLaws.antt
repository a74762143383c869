-- The checksum goes on over the bytes of a number by its remainder. Assumes nothing.
use mathlib.Core.Path.{◌≡◌, sym, ap, ap₂, ◌∙◌}
use mathlib.Core.List.{List}
use Prim.Native.Nat.{ℕ, zero, suc, ◌+◌, ◌*◌, ◌^◌, ◌≤◌, ◌<◌}
use native.Mathlib.Nat.{add-zero, add_comm}
use native.Mathlib.Omega.{arith}
use lib.ListN.{length, get_or, drop}
use lib.Bits.{bit_xor, xor_comm, xor_zero_r}
use Rattle.bits.specs.Field.{field}
use Rattle.bits.specs.Crc.{crc_bits, crc_byte, crc_from}
use Rattle.bits.proofs.XorLaws.{xor_assoc}
use Rattle.bits.proofs.FieldLaws.{field_split, field_whole}
use Rattle.bits.proofs.CrcLaws.{bits_linear, from_more}
use Rattle.bits.specs.FoldSteps.{rem}
use Rattle.bits.proofs.RemLaws.{bits_add, rem_split, rem_byte}

-- the last of three comes to the end
turn : (r a b : ℕ) → bit_xor r (bit_xor a b) ≡ bit_xor a (bit_xor b r)
turn r a b = xor_comm r (bit_xor a b) ∙ xor_assoc a b r

byte_step : (m c f b : ℕ) → b < 256 → crc_byte (bit_xor (crc_bits m c) (rem m f)) b ≡ bit_xor (crc_bits (m + 8) c) (rem (m + 8) (f * 2 ^ 8 + b))
unfolding crc_byte
byte_step m c f b h =
    bits_linear 8 (b * 2 ^ 16) (bit_xor (crc_bits m c) (rem m f))
    ∙ ap₂ bit_xor (ap (crc_bits 8) (sym (xor_zero_r (b * 2 ^ 16))) ∙ sym (rem_byte b h)) (bits_linear 8 (crc_bits m c) (rem m f))
    ∙ turn (rem 8 b) (crc_bits 8 (crc_bits m c)) (crc_bits 8 (rem m f))
    ∙ ap₂ bit_xor (sym (bits_add 8 m c) ∙ ap (λ (k : ℕ). crc_bits k c) (add_comm 8 m)) (sym (rem_split m 8 f b h))

pub run : (n : ℕ) (s : List ℕ) (i c : ℕ) → i + n ≤ length s → ((k : ℕ) → get_or s k 0 < 256)
    → crc_from c (drop i s) ≡ crc_from (bit_xor (crc_bits (n * 8) c) (rem (n * 8) (field s (i * 8) (n * 8)))) (drop (i + n) s)
unfolding crc_bits rem
run zero s i c h b = ap₂ (λ (x k : ℕ). crc_from x (drop k s)) (sym (xor_zero_r c)) (sym (add-zero i))
run (suc n) s i c h b =
    let m = n * 8 in
    let x = get_or s (i + n) 0 in
    let e : suc n * 8 ≡ m + 8 = omega arith in
    let g : (i + n) + 1 ≡ i + suc n = omega arith in
    let q : i * 8 + m ≡ (i + n) * 8 = omega arith in
    let f : field s (i * 8) (m + 8) ≡ field s (i * 8) m * 2 ^ 8 + x =
    field_split s (i * 8) m 8
    ∙ ap (λ (k : ℕ). field s (i * 8) m * 2 ^ 8 + k) (ap (λ (k : ℕ). field s k 8) q ∙ field_whole s (i + n) (b (i + n))) in
    run n s i c (omega arith) b
    ∙ from_more s (i + n) (bit_xor (crc_bits m c) (rem m (field s (i * 8) m))) (omega arith)
    ∙ ap₂ (λ (y k : ℕ). crc_from y (drop k s))
    (byte_step m c (field s (i * 8) m) x (b (i + n))
    ∙ ap (λ (k : ℕ). bit_xor (crc_bits (m + 8) c) (rem (m + 8) k)) (sym f)
    ∙ ap (λ (k : ℕ). bit_xor (crc_bits k c) (rem k (field s (i * 8) k))) (sym e))
    g
