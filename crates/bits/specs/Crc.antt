-- CRC-24Q, bit by bit: polynomial 864CFB without its leading 1, start 0, most significant bit first, no final change. Assumes nothing.
use Rattle.std.specs.Prelude.{List, [], ◌∷◌, ◌++◌, ℕ, zero, suc, ◌*◌, ◌/◌, ◌%◌, ◌^◌}
use Rattle.std.specs.Int.Bits.{bit_xor}

-- one bit: shift left within 24 bits, and where a 1 falls out, take the polynomial away
unfoldable pub crc_bit : ℕ → ℕ
crc_bit c = bit_xor (c / 2 ^ 23 % 2 * 0x864CFB) (c * 2 % 2 ^ 24)

-- n bits, one after the other
unfoldable pub crc_bits : ℕ → ℕ → ℕ
crc_bits zero c = c
crc_bits (suc n) c = crc_bit (crc_bits n c)

-- one byte: into the top eight bits, then eight bits
unfoldable pub crc_byte : ℕ → ℕ → ℕ
crc_byte c b = crc_bits 8 (bit_xor (b * 2 ^ 16) c)

-- a checksum continued over more bytes
unfoldable pub crc_from : ℕ → List ℕ → ℕ
crc_from c [] = c
crc_from c (b ∷ s) = crc_from (crc_byte c b) s

-- the checksum starts at 0
unfoldable pub crc : List ℕ → ℕ
crc s = crc_from 0 s

-- the exclusive-or of two lists of one length, byte by byte
unfoldable pub xors : List ℕ → List ℕ → List ℕ
xors [] t = []
xors (a ∷ s) [] = []
xors (a ∷ s) (b ∷ t) = bit_xor a b ∷ xors s t

-- a number of 24 bits in three bytes, highest first
abbrev pub three_bytes : ℕ → List ℕ
three_bytes v = v / 2 ^ 16 ∷ v / 2 ^ 8 % 2 ^ 8 ∷ v % 2 ^ 8 ∷ []

-- bytes, and their checksum behind them
abbrev pub summed : List ℕ → List ℕ
summed s = s ++ three_bytes (crc s)
