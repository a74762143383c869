-- One frame: D3; six reserved bits, ignored on reading and written 0; a ten-bit length L; L data bytes; the checksum of the first L + 3 bytes in three bytes, highest first. Assumes nothing.
use Rattle.std.specs.Prelude.{cond, not, List, [], ◌∷◌, ◌++◌, ℕ, ◌+◌, ◌-◌, ◌*◌, ◌/◌, ◌%◌, ◌^◌, length, get_or, take, drop, ltb, eqb}
use Rattle.std.proofs.Math.Option.{Option, none, some}
use Rattle.bits.specs.Told.{Told, Accepted, Refused, size, room, no_preamble, bad_check, incomplete}
use Rattle.bits.specs.Outcome.{Outcome, outcome, refusing}
use Rattle.bits.specs.Field.{field}
use Rattle.bits.specs.Crc.{crc, summed}
use Rattle.bits.specs.Onto.{onto}
use Rattle.bits.specs.Part.{Part, part}

-- ---- reading

-- L: the ten bits behind D3 and the six reserved bits
abbrev pub data_length : List ℕ → ℕ
data_length s = field s 14 10

-- the checksum that was sent: the three bytes behind the first L + 3
abbrev pub sent_sum : List ℕ → ℕ
sent_sum s = field s ((data_length s + 3) * 8) 24

-- the checksum of the first L + 3 bytes, computed
abbrev pub own_sum : List ℕ → ℕ
own_sum s = crc (take (data_length s + 3) s)

-- the L data bytes behind the first three
abbrev pub data_of : List ℕ → List ℕ
data_of s = take (data_length s) (drop 3 s)

-- the message number of data: their first 12 bits if they are at least two bytes, else absent
abbrev pub number_of : List ℕ → Option ℕ
number_of d = cond (ltb (length d) 2) none (some (field d 0 12))

-- a good frame: its length, that of its data, its message number and its checksum
pub record Whole : Type 0 where
  pub length : ℕ
  pub carried : ℕ
  pub number : Option ℕ
  pub sum : ℕ

-- the frame at the start of s
abbrev pub whole_of : List ℕ → Whole
whole_of s = record { length = data_length s + 6; carried = data_length s; number = number_of (data_of s); sum = sent_sum s }

-- The frame check of the first bytes of s, in its order: fewer than 6 bytes; the first byte is not D3; fewer than L + 6 bytes; the checksum sent is not the one computed.
unfoldable pub check : List ℕ → Told Whole
check s =
    cond (ltb (length s) 6) incomplete
    (cond (not (eqb (get_or s 0 0) 0xD3)) no_preamble
    (cond (ltb (length s) (data_length s + 6)) incomplete
    (cond (not (eqb (own_sum s) (sent_sum s))) (bad_check (sent_sum s) (own_sum s))
    (Accepted (whole_of s)))))

-- what a check hands out of s: as many bytes as it accepted, from place i on; none, at the start, if it refused
abbrev pub part_of : ℕ → (Whole → ℕ) → Told Whole → List ℕ → Part
part_of i count (Accepted w) s = part i (count w) s
part_of i count (Refused n carried) s = part 0 0 s

-- the whole frame, from byte 0 on
abbrev pub frame_part : List ℕ → Part
frame_part s = part_of 0 (λ w. w.length) (check s) s

-- the data, from byte 3 on
abbrev pub data_part : List ℕ → Part
data_part s = part_of 3 (λ w. w.carried) (check s) s

-- the data of bytes that are known to be a frame: all but the first three and the last three; of fewer than 6 bytes none, at the start
abbrev pub inside_part : List ℕ → Part
inside_part s = cond (ltb (length s) 6) (part 0 0 s) (part 3 (length s - 6) s)

-- ---- writing

-- the first three bytes of a frame with n data bytes: D3, the reserved bits 0 and the length
abbrev pub header : ℕ → List ℕ
header n = 0xD3 ∷ n / 2 ^ 8 ∷ n % 2 ^ 8 ∷ []

-- the frame of the data d
unfoldable pub frame_of : List ℕ → List ℕ
frame_of d = summed (header (length d) ++ d)

-- The length of the frame of the data d, if it goes into an output: Size above 1,023 data bytes, then Room below L + 6 bytes of output.
abbrev pub frame_length : List ℕ → List ℕ → Told ℕ
frame_length d out =
    cond (ltb 1023 (length d)) size
    (cond (ltb (length out) (length d + 6)) (room (length d + 6))
    (Accepted (length d + 6)))

-- Framing the data d into an output: a refusal writes nothing; else the frame stands at the front of the output, of which later bytes stay.
unfoldable pub write_frame : List ℕ → List ℕ → Outcome ℕ (List ℕ)
write_frame d out = refusing out (frame_length d out) (λ n. outcome (Accepted n) (onto (frame_of d) out))
