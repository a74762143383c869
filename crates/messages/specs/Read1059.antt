-- Reading the bias block of message 1059. Assumes nothing.
use Rattle.std.specs.Prelude.{cond, not, List, map, ℕ, length, ℤ, eqb, ltb}
use Rattle.bits.specs.Told.{Told, Accepted, and_then, size}
use Rattle.bits.specs.Field.{Reading}
use Rattle.bits.specs.Outcome.{Outcome, outcome, refusing}
use Rattle.bits.specs.Onto.{onto}
use Rattle.messages.specs.Reader.{as_records, room_for}
use Rattle.messages.specs.Layout1059.{block1059, flat1059}
use Rattle.messages.specs.Records.{Rec1059, satellite_of, signal_of1059, bias_of1059, Counted, counted}

-- the records of the block from bit p on
unfoldable pub read_block1059 : List ℕ → ℕ → Told (Reading (List Rec1059))
read_block1059 s p = as_records flat1059 (block1059.reads s p)

-- the lent lists once a block was read: their first places hold the satellites, signals and biases of its records, and later places stay
abbrev pub filled1059 : List ℕ → List ℕ → List ℤ → Reading (List Rec1059) → Outcome Counted (List ℕ × List ℕ × List ℤ)
filled1059 sats gs zs r =
    outcome
    (Accepted (counted (length r.value) r.next))
    (onto (map satellite_of r.value) sats, onto (map signal_of1059 r.value) gs, onto (map bias_of1059 r.value) zs)

-- the records that a call takes, or what it refuses: Size of the data, Size of unequal lists, Short, Room
abbrev pub taken1059 : List ℕ → ℕ → List ℕ → List ℕ → List ℤ → Told (Reading (List Rec1059))
taken1059 s p sats gs zs =
    cond (ltb 1023 (length s)) size
    (cond (not (eqb (length sats) (length gs))) size
    (cond (not (eqb (length sats) (length zs))) size
    (and_then (read_block1059 s p) (room_for (length sats)))))

-- a call that reads the block from bit p on into the lent lists; a refusal leaves them as they came
unfoldable pub read1059 : List ℕ → ℕ → List ℕ → List ℕ → List ℤ → Outcome Counted (List ℕ × List ℕ × List ℤ)
read1059 s p sats gs zs = refusing (sats, gs, zs) (taken1059 s p sats gs zs) (filled1059 sats gs zs)
