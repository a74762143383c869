-- Laws of the checksum: of an exclusive-or, its bound, and of an append. Assumes nothing.
use mathlib.Core.Path.{◌≡◌, refl, sym, ap, ap₂, ◌∙◌}
use mathlib.Core.List.{List, [], ◌∷◌, ◌++◌}
use Prim.Native.Nat.{ℕ, zero, suc, ◌+◌, ◌*◌, ◌/◌, ◌%◌, ◌^◌, ◌≤◌, ◌<◌}
use native.Mathlib.Nat.{mod-lt, zero-lt-suc, mul_assoc, mul-one, pow-suc}
use native.Mathlib.Omega.{arith}
use lib.ListN.{length, get_or, drop, drop_of_length-le}
use lib.Seq.{drop-cons}
use native.Mathlib.Numerals.{add-one}
use lib.Pow.{pow_pos}
use lib.Bits.{bit_xor, xor_shr, xor_mod, xor_lt}
use Rattle.bits.specs.Crc.{crc_bit, crc_bits, crc_byte, crc_from, crc, xors}
use Rattle.bits.proofs.XorLaws.{xor_swap, xor_shl, xor_times}

-- ---- the equations of a checksum: for the layers above, which cite them in place of the definitions

pub bit_is : (c : ℕ) → crc_bit c ≡ bit_xor (c / 2 ^ 23 % 2 * 0x864CFB) (c * 2 % 2 ^ 24)
unfolding crc_bit
bit_is c = refl

pub bits_none : (c : ℕ) → crc_bits 0 c ≡ c
unfolding crc_bits
bits_none c = refl

pub bits_more : (n c : ℕ) → crc_bits (suc n) c ≡ crc_bit (crc_bits n c)
unfolding crc_bits
bits_more n c = refl

pub byte_is : (c b : ℕ) → crc_byte c b ≡ crc_bits 8 (bit_xor (b * 2 ^ 16) c)
unfolding crc_byte
byte_is c b = refl

pub from_nil : (c : ℕ) → crc_from c [] ≡ c
unfolding crc_from
from_nil c = refl

pub from_cons : (c b : ℕ) (s : List ℕ) → crc_from c (b ∷ s) ≡ crc_from (crc_byte c b) s
unfolding crc_from
from_cons c b s = refl

pub crc_is : (s : List ℕ) → crc s ≡ crc_from 0 s
unfolding crc
crc_is s = refl

-- zero stays zero
pub bits_zero : (n : ℕ) → crc_bits n 0 ≡ 0
unfolding crc_bits crc_bit
bits_zero zero = refl
bits_zero (suc n) = ap crc_bit (bits_zero n)

-- ---- linear

pub bit_linear : (x y : ℕ) → crc_bit (bit_xor x y) ≡ bit_xor (crc_bit x) (crc_bit y)
unfolding crc_bit
bit_linear x y =
    ap₂ bit_xor
    (ap (λ (n : ℕ). n % 2 * 0x864CFB) (xor_shr x y 23)
    ∙ ap (λ (n : ℕ). n * 0x864CFB) (xor_mod (x / 2 ^ 23) (y / 2 ^ 23) 1)
    ∙ xor_times 0x864CFB (x / 2 ^ 23 % 2) (y / 2 ^ 23 % 2) (mod-lt _ (zero-lt-suc 1)) (mod-lt _ (zero-lt-suc 1)))
    (ap (λ (n : ℕ). n % 2 ^ 24) (xor_shl x y 1) ∙ xor_mod (x * 2) (y * 2) 24)
    ∙ xor_swap (x / 2 ^ 23 % 2 * 0x864CFB) (y / 2 ^ 23 % 2 * 0x864CFB) (x * 2 % 2 ^ 24) (y * 2 % 2 ^ 24)

pub bits_linear : (n x y : ℕ) → crc_bits n (bit_xor x y) ≡ bit_xor (crc_bits n x) (crc_bits n y)
unfolding crc_bits
bits_linear zero x y = refl
bits_linear (suc n) x y = ap crc_bit (bits_linear n x y) ∙ bit_linear (crc_bits n x) (crc_bits n y)

byte_linear : (c d x y : ℕ) → crc_byte (bit_xor c d) (bit_xor x y) ≡ bit_xor (crc_byte c x) (crc_byte d y)
unfolding crc_byte
byte_linear c d x y =
    ap (crc_bits 8) (ap (λ (n : ℕ). bit_xor n (bit_xor c d)) (xor_shl x y 16) ∙ xor_swap (x * 2 ^ 16) (y * 2 ^ 16) c d)
    ∙ bits_linear 8 (bit_xor (x * 2 ^ 16) c) (bit_xor (y * 2 ^ 16) d)

from_linear : (a b : List ℕ) (c d : ℕ) → length a ≡ length b → crc_from (bit_xor c d) (xors a b) ≡ bit_xor (crc_from c a) (crc_from d b)
unfolding crc_from xors
from_linear [] [] c d e = refl
from_linear [] (y ∷ b) c d e = absurd (omega arith)
from_linear (x ∷ a) [] c d e = absurd (omega arith)
from_linear (x ∷ a) (y ∷ b) c d e =
    ap (λ (n : ℕ). crc_from n (xors a b)) (byte_linear c d x y)
    ∙ from_linear a b (crc_byte c x) (crc_byte d y) (omega arith)

-- the checksum of an exclusive-or is the exclusive-or of the checksums
pub crc_linear : (a b : List ℕ) → length a ≡ length b → crc (xors a b) ≡ bit_xor (crc a) (crc b)
unfolding crc
crc_linear a b e = from_linear a b 0 0 e

-- ---- shifts

bit_shift : (y : ℕ) → y * 2 < 2 ^ 24 → crc_bit y ≡ y * 2
unfolding crc_bit
bit_shift y h =
    let z : y / 2 ^ 23 % 2 ≡ 0 = omega arith in
    let w : y * 2 % 2 ^ 24 ≡ y * 2 = omega arith in
    rw (z, w)

-- where no 1 falls out, the steps are a shift
pub bits_shift : (w x : ℕ) → x * 2 ^ w < 2 ^ 24 → crc_bits w x ≡ x * 2 ^ w
unfolding crc_bits
bits_shift zero x h = sym (mul-one x)
bits_shift (suc w) x h =
    let e : x * 2 ^ suc w ≡ x * 2 ^ w * 2 = ap (λ (n : ℕ). x * n) (pow-suc 2 w) ∙ sym (mul_assoc x (2 ^ w) 2) in
    let g : x * 2 ^ w * 2 < 2 ^ 24 = omega arith in
    ap crc_bit (bits_shift w x (omega arith)) ∙ bit_shift (x * 2 ^ w) g ∙ sym e

-- ---- bounds

pub bit_below : (c : ℕ) → crc_bit c < 2 ^ 24
unfolding crc_bit
bit_below c =
    xor_lt 24 (c / 2 ^ 23 % 2 * 0x864CFB) (c * 2 % 2 ^ 24) (omega arith) (mod-lt (c * 2) (pow_pos 24))

pub byte_below : (c b : ℕ) → crc_byte c b < 2 ^ 24
unfolding crc_byte crc_bits
byte_below c b = bit_below (crc_bits 7 (bit_xor (b * 2 ^ 16) c))

pub from_below : (s : List ℕ) (c : ℕ) → c < 2 ^ 24 → crc_from c s < 2 ^ 24
unfolding crc_from
from_below [] c h = h
from_below (b ∷ s) c h = from_below s (crc_byte c b) (byte_below c b)

pub crc_below : (s : List ℕ) → crc s < 2 ^ 24
unfolding crc
crc_below s = from_below s 0 (pow_pos 24)

-- ---- one piece after another

pub from_append : (s t : List ℕ) (c : ℕ) → crc_from c (s ++ t) ≡ crc_from (crc_from c s) t
unfolding crc_from
from_append [] t c = refl
from_append (b ∷ s) t c = from_append s t (crc_byte c b)

-- the checksum of A and B joined is that of A, continued over B
pub crc_append : (s t : List ℕ) → crc (s ++ t) ≡ crc_from (crc s) t
unfolding crc
crc_append s t = from_append s t 0

-- one byte more, from a place of the list on
pub from_more : (s : List ℕ) (i c : ℕ) → i < length s → crc_from c (drop i s) ≡ crc_from (crc_byte c (get_or s i 0)) (drop (i + 1) s)
unfolding crc_from
from_more s i c h = rw (add-one, drop-cons s i 0)

pub from_end : (s : List ℕ) (i c : ℕ) → length s ≤ i → crc_from c (drop i s) ≡ c
unfolding crc_from
from_end s i c h = rw (drop_of_length-le s h)
