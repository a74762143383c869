-- What the number of a field of w bits means, which numbers fit, and the bits of one that does. `pos n` is n, and `negsuc n` is -(n + 1). Assumes nothing.
use Rattle.std.specs.Prelude.{Bool, cond, ℕ, suc, ◌+◌, ◌-◌, ◌^◌, ltb, ℤ, pos, negsuc, neg_ℤ}
use Rattle.std.proofs.Math.IntN.{sub_ℕ}

-- two's complement: v, or v - 2 ^ w where the top bit is set
unfoldable pub twos_of : ℕ → ℕ → ℤ
twos_of w v = cond (ltb v (2 ^ (w - 1))) (pos v) (sub_ℕ v (2 ^ w))

-- sign-magnitude: the top bit is the sign, and minus zero is zero
unfoldable pub signmag_of : ℕ → ℕ → ℤ
signmag_of w v = cond (ltb v (2 ^ (w - 1))) (pos v) (neg_ℤ (pos (v - 2 ^ (w - 1))))

-- from 0 to 2 ^ w - 1
abbrev pub fits_unsigned : ℕ → ℕ → Bool
fits_unsigned w v = ltb v (2 ^ w)

-- from -2 ^ (w - 1) to 2 ^ (w - 1) - 1
abbrev pub fits_twos : ℕ → ℤ → Bool
fits_twos w (pos n) = ltb n (2 ^ (w - 1))
fits_twos w (negsuc n) = ltb n (2 ^ (w - 1))

-- from -(2 ^ (w - 1) - 1) to 2 ^ (w - 1) - 1
abbrev pub fits_signmag : ℕ → ℤ → Bool
fits_signmag w (pos n) = ltb n (2 ^ (w - 1))
fits_signmag w (negsuc n) = ltb (suc n) (2 ^ (w - 1))

-- z, or z + 2 ^ w of a z below zero
abbrev pub twos_bits : ℕ → ℤ → ℕ
twos_bits w (pos n) = n
twos_bits w (negsuc n) = 2 ^ w - suc n

-- the magnitude, and the sign in the top bit
abbrev pub signmag_bits : ℕ → ℤ → ℕ
signmag_bits w (pos n) = n
signmag_bits w (negsuc n) = 2 ^ (w - 1) + suc n
