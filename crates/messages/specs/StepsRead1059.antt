-- What the passes of the 1059 block's reader compute, one by one. No promise to a caller rests on this file. Assumes nothing.
use Rattle.std.specs.Prelude.{List, ℕ, length, ℤ}
use Rattle.bits.specs.Told.{Told, and_then}
use Rattle.bits.specs.Field.{Reading}
use Rattle.bits.specs.Outcome.{Outcome, refusing}
use Rattle.messages.specs.Reader.{as_records, room_for}
use Rattle.messages.specs.Records.{Rec1059, Counted}
use Rattle.messages.specs.Layout1059.{bias1059, satellite1059, of_bias, of_sat}
use Rattle.messages.specs.Read1059.{filled1059}
use Rattle.messages.specs.StepsRead.{many}

-- one bias of satellite a
unfoldable pub bias_at : List ℕ → ℕ → ℕ → Told (Reading (List Rec1059))
bias_at s a p = as_records (of_bias a) (bias1059.reads s p)

-- one satellite
unfoldable pub satellite_at : List ℕ → ℕ → Told (Reading (List Rec1059))
satellite_at s p = as_records of_sat (satellite1059.reads s p)

-- the n satellites from bit p on, read into the lent lists
unfoldable pub read_satellites : List ℕ → ℕ → ℕ → List ℕ → List ℕ → List ℤ → Outcome Counted (List ℕ × List ℕ × List ℤ)
read_satellites s n p sats gs zs =
    refusing (sats, gs, zs) (and_then (many (satellite_at s) n p) (room_for (length sats))) (filled1059 sats gs zs)
