-- What the passes of the 1230 block's reader compute. No promise to a caller rests on this file. Assumes nothing.
use Rattle.std.specs.Prelude.{List, ℕ, length, ℤ}
use Rattle.bits.specs.Told.{Told, and_then}
use Rattle.bits.specs.Field.{Reading}
use Rattle.bits.specs.Outcome.{Outcome, refusing}
use Rattle.formats.specs.Format.{twos, read_each}
use Rattle.messages.specs.Reader.{as_records, room_for}
use Rattle.messages.specs.Records.{Rec1230, records1230, Counted}
use Rattle.messages.specs.Layout1230.{mask_signals, masked}
use Rattle.messages.specs.Read1230.{filled1230}

-- a bias for each signal
unfoldable pub biases_at : List ℕ → List ℕ → ℕ → Told (Reading (List Rec1230))
biases_at s gs p = as_records (records1230 gs) (read_each (twos 16) (length gs) s p)

-- the biases of the signals of the mask m, which starts before bit p, read into the lent lists
unfoldable pub read_masked : List ℕ → ℕ → ℕ → List ℕ → List ℤ → Outcome Counted (List ℕ × List ℤ)
read_masked s m p gs zs =
    refusing (gs, zs) (and_then (biases_at s (masked mask_signals m) p) (room_for (length gs))) (filled1230 gs zs)
