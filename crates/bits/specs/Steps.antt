-- What private functions of the code compute. No promise to a caller rests on this file. Assumes nothing.
use Rattle.std.specs.Prelude.{cond, List, Result, Ok, Err, ℕ, ◌+◌, ◌*◌, ◌/◌, ◌%◌, ◌^◌, length, ltb, eqb}
use Rattle.bits.specs.Told.{Accepted, room}
use Rattle.bits.specs.Outcome.{Outcome, outcome, refusing}
use Rattle.bits.specs.Field.{put_field}
use Rattle.bits.specs.declared.refusal.Refusal.{Refusal}
use Rattle.bits.specs.declared.refusal.Refusal.TheVariants.{Size, Width}

-- the refusals that all fields share, for n bytes of data and the width w
unfoldable pub limits_of : ℕ → ℕ → Result (Unit {0}) Refusal
limits_of n w = cond (ltb 1023 n) (Err Size) (cond (eqb w 0) (Err Width) (cond (ltb 64 w) (Err Width) (Ok tt)))

-- what is left to decide of a number that fits: whether the data reaches so far
unfoldable pub put_where_room : List ℕ → ℕ → ℕ → ℕ → Outcome ℕ (List ℕ)
put_where_room s p w v =
    refusing s
    (cond (ltb (length s * 8) (p + w)) (room w) (Accepted (p + w)))
    (λ q. outcome (Accepted q) (put_field s p w v))

-- the byte x with b in the m bits that have j bits below them
unfoldable pub splice : ℕ → ℕ → ℕ → ℕ → ℕ
splice x m j b = x / 2 ^ (m + j) * 2 ^ (m + j) + (b * 2 ^ j + x % 2 ^ j)
