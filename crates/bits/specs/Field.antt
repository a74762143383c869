-- Bit fields in a list of bytes: bit 0 is the top bit of byte 0, and a field has its most significant bit first. Assumes nothing.
use Rattle.std.specs.Prelude.{Bool, cond, not, List, ℕ, zero, suc, ◌+◌, ◌-◌, ◌*◌, ◌/◌, ◌%◌, ◌^◌, min, length, get_or, set, ltb, eqb, ℤ}
use Rattle.bits.specs.Told.{Told, Accepted, size, width, short, range, room}
use Rattle.bits.specs.Outcome.{Outcome, outcome, refusing}
use Rattle.bits.specs.Signed.{twos_of, signmag_of, fits_unsigned, fits_twos, fits_signmag, twos_bits, signmag_bits}

-- ---- reading

-- bit i of a list of bytes
abbrev pub bit_at : List ℕ → ℕ → ℕ
bit_at s i = get_or s (i / 8) 0 / 2 ^ (7 - i % 8) % 2

-- the w bits from bit p on, most significant first
unfoldable pub field : List ℕ → ℕ → ℕ → ℕ
field s p zero = 0
field s p (suc w) = field s p w * 2 + bit_at s (p + w)

-- a field's value, and the bit behind it
pub record Reading (A : Type 0) : Type 0 where
  pub value : A
  pub next : ℕ

abbrev pub reading : {A : Type 0} → A → ℕ → Reading A
reading v q = record { value = v; next = q }

-- how many bits a field of w bits from bit p on lacks where the data has `all` bits: from the field's end back to the data's end, or to the field's start if that lies past it
unfoldable pub missing : ℕ → ℕ → ℕ → ℕ
missing all p w = min w (p + w - all)

-- a field of w bits from bit p on, cut short by the end of n bytes
abbrev pub cut_at : {A : Type 0} → ℕ → ℕ → ℕ → Told A
cut_at n p w = short p (missing (n * 8) p w)

-- a field read from bit p on, its number understood by `meaning`; the refusals in their order
unfoldable pub read_by : {A : Type 0} → (ℕ → A) → List ℕ → ℕ → ℕ → Told (Reading A)
read_by meaning s p w =
    cond (ltb 1023 (length s)) size
    (cond (eqb w 0) width
    (cond (ltb 64 w) width
    (cond (ltb (length s * 8) (p + w)) (cut_at (length s) p w)
    (Accepted (reading (meaning (field s p w)) (p + w))))))

-- the number itself
abbrev pub read_unsigned : List ℕ → ℕ → ℕ → Told (Reading ℕ)
read_unsigned s p w = read_by (λ v. v) s p w

-- the number understood as two's complement
abbrev pub read_twos : List ℕ → ℕ → ℕ → Told (Reading ℤ)
read_twos s p w = read_by (twos_of w) s p w

-- the number understood as sign-magnitude
abbrev pub read_signmag : List ℕ → ℕ → ℕ → Told (Reading ℤ)
read_signmag s p w = read_by (signmag_of w) s p w

-- ---- writing

-- the byte x with b at its bit j, counted from the lowest: what is above, b, what is below
unfoldable pub with_bit : ℕ → ℕ → ℕ → ℕ
with_bit x j b = x / 2 ^ (j + 1) * 2 ^ (j + 1) + (b * 2 ^ j + x % 2 ^ j)

-- the list with b at bit i
unfoldable pub set_bit : List ℕ → ℕ → ℕ → List ℕ
set_bit s i b = set s (i / 8) (with_bit (get_or s (i / 8) 0) (7 - i % 8) b)

-- the list with the w low bits of v, most significant first, from bit p on
unfoldable pub put_field : List ℕ → ℕ → ℕ → ℕ → List ℕ
put_field s p zero v = s
put_field s p (suc w) v = set_bit (put_field s p w (v / 2)) (p + w) (v % 2)

-- the bits v of a number, of which `fits` says whether it fits w bits, written from bit p on: the refusals in their order; else the end bit, and the data hold the bits
unfoldable pub write_by : Bool → ℕ → List ℕ → ℕ → ℕ → Outcome ℕ (List ℕ)
write_by fits v s p w =
    refusing s
    (cond (ltb 1023 (length s)) size
    (cond (eqb w 0) width
    (cond (ltb 64 w) width
    (cond (not fits) (range 0)
    (cond (ltb (length s * 8) (p + w)) (room w)
    (Accepted (p + w)))))))
    (λ q. outcome (Accepted q) (put_field s p w v))

-- a number from 0 on
abbrev pub write_unsigned : List ℕ → ℕ → ℕ → ℕ → Outcome ℕ (List ℕ)
write_unsigned s p w v = write_by (fits_unsigned w v) v s p w

-- a number in two's complement
abbrev pub write_twos : List ℕ → ℕ → ℕ → ℤ → Outcome ℕ (List ℕ)
write_twos s p w z = write_by (fits_twos w z) (twos_bits w z) s p w

-- a number as sign-magnitude
abbrev pub write_signmag : List ℕ → ℕ → ℕ → ℤ → Outcome ℕ (List ℕ)
write_signmag s p w z = write_by (fits_signmag w z) (signmag_bits w z) s p w
