-- Reading the bias block of message 1230. Assumes nothing.
use Rattle.std.specs.Prelude.{cond, not, List, map, ℕ, length, ℤ, eqb, ltb}
use Rattle.bits.specs.Told.{Told, Accepted, and_then, size}
use Rattle.bits.specs.Field.{Reading}
use Rattle.bits.specs.Outcome.{Outcome, outcome, refusing}
use Rattle.bits.specs.Onto.{onto}
use Rattle.messages.specs.Reader.{as_records, room_for}
use Rattle.messages.specs.Layout1230.{block1230, flat1230}
use Rattle.messages.specs.Records.{Rec1230, signal_of1230, bias_of1230, Counted, counted}

-- the records of the block from bit p on
unfoldable pub read_block1230 : List ℕ → ℕ → Told (Reading (List Rec1230))
read_block1230 s p = as_records flat1230 (block1230.reads s p)

-- the lent lists once a block was read: their first places hold the signals and biases of its records, and later places stay
abbrev pub filled1230 : List ℕ → List ℤ → Reading (List Rec1230) → Outcome Counted (List ℕ × List ℤ)
filled1230 gs zs r =
    outcome (Accepted (counted (length r.value) r.next)) (onto (map signal_of1230 r.value) gs, onto (map bias_of1230 r.value) zs)

-- the records that a call takes, or what it refuses: Size of the data, Size of unequal lists, Short, Room
abbrev pub taken1230 : List ℕ → ℕ → List ℕ → List ℤ → Told (Reading (List Rec1230))
taken1230 s p gs zs =
    cond (ltb 1023 (length s)) size
    (cond (not (eqb (length gs) (length zs))) size
    (and_then (read_block1230 s p) (room_for (length gs))))

-- a call that reads the block from bit p on into the lent lists; a refusal leaves them as they came
unfoldable pub read1230 : List ℕ → ℕ → List ℕ → List ℤ → Outcome Counted (List ℕ × List ℤ)
read1230 s p gs zs = refusing (gs, zs) (taken1230 s p gs zs) (filled1230 gs zs)
