-- Bytes that were skipped. Assumes nothing.
use Rattle.std.specs.Prelude.{◌≡◌, ℕ, ◌+◌, ◌-◌, ◌%◌, ◌^◌, cond, List, nat_lt, slice_index}
use Rattle.closing.specs.Reason.{Sort, NoD3, Wrong, WrongUbx, by_byte}
use Rattle.reading.specs.declared.skips.Skips.{Skips}

-- the byte at place i of the first n bytes of an area and of the bytes of a piece from place m on; 0 if there is none
abbrev pub byte_in : List ℕ → ℕ → List ℕ → ℕ → ℕ → ℕ
byte_in area n piece m i = cond (nat_lt i n) (slice_index area i) (slice_index piece (m + (i - n)))

-- one byte more, by why it was skipped
abbrev pub one_more : Skips → Sort → Skips
one_more a Wrong = record { others = a.others; d3 = (a.d3 + 1) % 2 ^ 64; b5 = a.b5 }
one_more a WrongUbx = record { others = a.others; d3 = a.d3; b5 = (a.b5 + 1) % 2 ^ 64 }
one_more a NoD3 = record { others = (a.others + 1) % 2 ^ 64; d3 = a.d3; b5 = a.b5 }

-- the byte tells why, as in a scanner for both kinds (to one for RTCM alone a B5 is one of the others)
abbrev pub counted : Skips → ℕ → Skips
counted a x = one_more a (by_byte 1 x)

abbrev pub Counted : Skips → ℕ → Skips → Type 0
Counted a x r = r ≡ counted a x
