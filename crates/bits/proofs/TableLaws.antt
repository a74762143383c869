-- The rule of the checksum's table, a byte of the checksum by it, and that 24 bits of an earlier sum count. Assumes nothing.
use mathlib.Core.Path.{◌≡◌, sym, ap, ap₂, ◌∙◌}
use mathlib.Core.Bool.{Bool}
use mathlib.Core.List.{List, [], ◌∷◌}
use Prim.Native.Nat.{ℕ, zero, suc, ◌+◌, ◌*◌, ◌/◌, ◌%◌, ◌^◌, ◌<◌}
use native.Mathlib.Nat.{mod-lt, mod-mod, mod-eq_of_lt}
use native.Mathlib.Omega.{arith}
use lib.Dec.{eqb, eqb→eq}
use lib.ListN.{length, get_or, drop}
use lib.Pow.{pow_pos, field, mod-pow-add, mod-mod-pow}
use lib.Bits.{bit_xor, xor_shifted, xor_mod, xor_lt, xor_comm, xor_self, xor_zero_r}
use Rattle.crctable.specs.Table.{table}
use Rattle.bits.specs.Crc.{crc_bit, crc_bits, crc_byte, crc_from}
use Rattle.bits.proofs.CrcLaws.{bits_linear, bits_shift, byte_below, from_more}
use Rattle.bits.proofs.XorLaws.{xor_assoc, xor_shl}
use Rattle.bits.proofs.EveryPlace.{at}

-- ---- the rule

right : ℕ → ℕ → Bool
right j x = eqb x (crc_bits 8 (bit_xor j 128 * 2 ^ 16))

-- the number at place j of the table is what eight bit steps make, in the top bits, of the byte j with its top bit turned
rule : (j : ℕ) → j < 256 → get_or table j 0 ≡ crc_bits 8 (bit_xor j 128 * 2 ^ 16)
unfolding table right crc_bits crc_bit
rule j h = eqb→eq (get_or table j 0) (crc_bits 8 (bit_xor j 128 * 2 ^ 16)) (at right table tt j h)

-- the number of a byte
number : (i : ℕ) → i < 256 → get_or table (bit_xor i 128) 0 ≡ crc_bits 8 (i * 2 ^ 16)
number i h =
    rule (bit_xor i 128) (xor_lt 8 i 128 h (omega arith))
    ∙ ap (λ (n : ℕ). crc_bits 8 (n * 2 ^ 16)) (xor_assoc i 128 128 ∙ ap (bit_xor i) (xor_self 128) ∙ xor_zero_r i)

-- ---- bit steps

-- only 24 bits of the sum count
bit_mod : (x : ℕ) → crc_bit x ≡ crc_bit (x % 2 ^ 24)
unfolding crc_bit
bit_mod x =
    let a : x / 2 ^ 23 % 2 ≡ x % 2 ^ 24 / 2 ^ 23 % 2 = top in
    let b : x * 2 % 2 ^ 24 ≡ x % 2 ^ 24 * 2 % 2 ^ 24 = omega arith in
    ap₂ (λ (m n : ℕ). bit_xor (m * 0x864CFB) n) a b
  where
    top : x / 2 ^ 23 % 2 ≡ x % 2 ^ 24 / 2 ^ 23 % 2
    top = sym (ap (λ (n : ℕ). n % 2) (field x 1 23) ∙ mod-mod (x / 2 ^ 23) 2)

bits_mod : (n x : ℕ) → crc_bits (suc n) x ≡ crc_bits (suc n) (x % 2 ^ 24)
unfolding crc_bits
bits_mod zero x = bit_mod x
bits_mod (suc n) x = ap crc_bit (bits_mod n x)

-- ---- a byte by the table

-- the byte in the top, apart from the rest
parted : (c b : ℕ) → b < 256 → bit_xor (b * 2 ^ 16) c % 2 ^ 24 ≡ bit_xor (bit_xor (c / 2 ^ 16 % 256) b * 2 ^ 16) (c % 2 ^ 16)
parted c b h =
    let d : c % 2 ^ 24 ≡ c / 2 ^ 16 % 256 * 2 ^ 16 + c % 2 ^ 16 = mod-pow-add c 8 16 in
    let e : b * 2 ^ 16 % 2 ^ 24 ≡ b * 2 ^ 16 = omega arith in
    xor_mod (b * 2 ^ 16) c 24
    ∙ ap₂ bit_xor e (d ∙ sym (xor_shifted (c / 2 ^ 16 % 256) 16 (c % 2 ^ 16) (mod-lt c (pow_pos 16))))
    ∙ sym (xor_assoc (b * 2 ^ 16) (c / 2 ^ 16 % 256 * 2 ^ 16) (c % 2 ^ 16))
    ∙ ap (λ (n : ℕ). bit_xor n (c % 2 ^ 16)) (xor_comm (b * 2 ^ 16) (c / 2 ^ 16 % 256 * 2 ^ 16) ∙ sym (xor_shl (c / 2 ^ 16 % 256) b 16))

-- the table's number for the byte that falls out, and the rest moved up
exact : (c b : ℕ) → b < 256 → bit_xor (get_or table (bit_xor (bit_xor (c / 2 ^ 16 % 256) b) 128) 0) (c % 2 ^ 16 * 256) ≡ crc_byte c b
unfolding crc_byte
exact c b h =
    let i = bit_xor (c / 2 ^ 16 % 256) b in
    ap₂ bit_xor (number i (xor_lt 8 (c / 2 ^ 16 % 256) b (mod-lt (c / 2 ^ 16) (pow_pos 8)) h)) (sym (bits_shift 8 (c % 2 ^ 16) (omega arith)))
    ∙ sym (bits_linear 8 (i * 2 ^ 16) (c % 2 ^ 16))
    ∙ ap (crc_bits 8) (sym (parted c b h))
    ∙ sym (bits_mod 7 (bit_xor (b * 2 ^ 16) c))

-- of a sum moved up within 32 bits, the low 24 are the rest moved up
moved : (c : ℕ) → c * 2 ^ 8 % 2 ^ 32 % 2 ^ 24 ≡ c % 2 ^ 16 * 256 % 2 ^ 24
moved c = mod-mod-pow (c * 2 ^ 8) 8 24 ∙ omega arith

-- the same in the low 24 bits, where all of the sum is moved up
pub by_table : (c b : ℕ) → b < 256 → bit_xor (get_or table (bit_xor (bit_xor (c / 2 ^ 16 % 256) b) 128) 0) (c * 2 ^ 8 % 2 ^ 32) % 2 ^ 24 ≡ crc_byte c b
by_table c b h =
    let e = get_or table (bit_xor (bit_xor (c / 2 ^ 16 % 256) b) 128) 0 in
    xor_mod e (c * 2 ^ 8 % 2 ^ 32) 24
    ∙ ap (bit_xor (e % 2 ^ 24)) (moved c)
    ∙ sym (xor_mod e (c % 2 ^ 16 * 256) 24)
    ∙ ap (λ (n : ℕ). n % 2 ^ 24) (exact c b h)
    ∙ mod-eq_of_lt (byte_below c b)

-- ---- a sum with more than 24 bits

byte_mod : (c b : ℕ) → crc_byte (c % 2 ^ 24) b ≡ crc_byte c b
unfolding crc_byte
byte_mod c b =
    let x = b * 2 ^ 16 in
    bits_mod 7 (bit_xor x (c % 2 ^ 24))
    ∙ ap (crc_bits 8)
    (xor_mod x (c % 2 ^ 24) 24
    ∙ ap (bit_xor (x % 2 ^ 24)) (mod-mod c (2 ^ 24))
    ∙ sym (xor_mod x c 24))
    ∙ sym (bits_mod 7 (bit_xor x c))

-- one byte more, from a place of the list on, where the low 24 bits are the sum
pub more : (s : List ℕ) (i c d : ℕ) → i < length s → d % 2 ^ 24 ≡ crc_byte c (get_or s i 0)
    → crc_from (d % 2 ^ 24) (drop (i + 1) s) ≡ crc_from (c % 2 ^ 24) (drop i s)
more s i c d h e =
    ap (λ (n : ℕ). crc_from n (drop (i + 1) s)) (e ∙ sym (byte_mod c (get_or s i 0))) ∙ sym (from_more s i (c % 2 ^ 24) h)

-- over one byte or more, what the sum has above 24 bits does not count
pub from_mod : (s : List ℕ) (c : ℕ) → 0 < length s → crc_from (c % 2 ^ 24) s ≡ crc_from c s
unfolding crc_from
from_mod [] c h = absurd (omega arith)
from_mod (b ∷ s) c h = ap (λ (n : ℕ). crc_from n s) (byte_mod c b)
