-- What private functions of the code compute. No promise to a caller rests on this file. Assumes nothing.
use Rattle.std.specs.Prelude.{◌≡◌, List, ℕ, suc, ◌-◌, ◌*◌, ◌/◌, ◌%◌, ◌^◌, ◌<◌, length, get_or, drop}
use Rattle.std.specs.Int.Bits.{bit_xor}
use Rattle.bits.specs.Crc.{crc_bits, crc_byte}

-- bit t of a byte, times a number moved up by t bits
abbrev pub term : ℕ → ℕ → ℕ → ℕ
term t b w = b / 2 ^ t % 2 * (w * 2 ^ t % 2 ^ 32)

-- a byte times a number, without carries
unfoldable pub times : ℕ → ℕ → ℕ
times b w =
    bit_xor
    (bit_xor
    (bit_xor
    (bit_xor
    (bit_xor
    (bit_xor
    (bit_xor (b % 2 * w)
    (term 1 b w))
    (term 2 b w))
    (term 3 b w))
    (term 4 b w))
    (term 5 b w))
    (term 6 b w))
    (term 7 b w)

-- a number of 32 bits, reduced to 24
unfoldable pub low : ℕ → ℕ
low x = bit_xor (x % 2 ^ 24) (crc_byte 0 (x / 2 ^ 24))

-- the weights of the last 4,096 bytes: that of the last byte, moved on by eight bits for each byte behind
pub record Weights (w : List ℕ) : Type 0 where
  pub rule : (k : ℕ) → k < 4096 → get_or w k 0 ≡ crc_bits ((4095 - k) * 8) 0x864CFB

-- d holds the product of each byte of s with its weight
pub record Multiplied (s d : List ℕ) : Type 0 where
  pub product : (k : ℕ) → k < length s → get_or d k 0 ≡ times (get_or s k 0) (crc_bits ((length s - suc k) * 8) 0x864CFB)

-- the products stand in d, which was d₀ and stays so behind them
pub record Products (s d₀ d : List ℕ) : Type 0 where
  pub all : Multiplied s d
  pub as_long : length d ≡ length d₀
  pub behind : drop (length s) d ≡ drop (length s) d₀
