-- Writing the bias block of message 1059. Assumes nothing.
use Rattle.std.specs.Prelude.{Bool, cond, not, ◌&&◌, List, [], ℕ, zero, suc, ◌+◌, length, ℤ, eqb, ltb}
use Rattle.bits.specs.Told.{Told, and_then, size, satellite, signal, range, too_many}
use Rattle.bits.specs.Signed.{fits_twos}
use Rattle.bits.specs.Outcome.{Outcome}
use Rattle.bits.specs.Fields.{Field}
use Rattle.formats.specs.Written.{fine, first_fault}
use Rattle.messages.specs.Signals1059.{known_edition, is_signal1059}
use Rattle.messages.specs.Writer.{first_repeat, write_run}
use Rattle.messages.specs.Layout1059.{block1059, of_satellite, grouped1059}
use Rattle.messages.specs.Records.{Rec1059, rec1059, records1059}

-- ---- refusals

-- record i: satellite above 63; signal not of the edition; bias that does not fit 14 bits
unfoldable pub fault1059 : ℕ → ℕ → Rec1059 → Told Unit
fault1059 edition i (rec1059 a g z) =
    cond (ltb 63 a) (satellite i)
    (cond (not (is_signal1059 edition g)) (signal i)
    (cond (not (fits_twos 14 z)) (range i)
    fine))

-- the lowest of the n satellites from a on that has over 31 biases
unfoldable pub crowded : ℕ → ℕ → List Rec1059 → Told Unit
crowded a zero rs = fine
crowded a (suc n) rs = cond (ltb 31 (length (of_satellite a rs))) (too_many a) (crowded (suc a) n rs)

-- how many of the n satellites from a on have a bias
unfoldable pub present : ℕ → ℕ → List Rec1059 → ℕ
present a zero rs = 0
present a (suc n) rs = cond (eqb (length (of_satellite a rs)) 0) 0 1 + present (suc a) n rs

-- the same satellite and the same signal
abbrev pub same_pair : Rec1059 → Rec1059 → Bool
same_pair (rec1059 a g z) (rec1059 b h y) = eqb a b && eqb g h

-- ---- the fields of a block

-- satellites ascending, the records of each in list order
unfoldable pub fields1059 : List Rec1059 → List Field
fields1059 rs = block1059.fields (grouped1059 rs)

-- ---- the call

-- records: the first fault, TooMany of one satellite, TooMany of all, the first Duplicate
unfoldable pub refused_records1059 : ℕ → List Rec1059 → Told Unit
refused_records1059 edition rs =
    and_then (first_fault (fault1059 edition) 0 rs) (λ u.
    and_then (crowded 0 64 rs) (λ u.
    and_then (cond (eqb (present 0 64 rs) 64) (too_many 64) fine) (λ u.
    first_repeat same_pair 0 [] rs)))

-- a call: Size of n bytes of data, of unequal lists, of over 1,953 records; then the records
unfoldable pub refused1059 : ℕ → ℕ → List ℕ → List ℕ → List ℤ → Told Unit
refused1059 edition n sats gs zs =
    cond (ltb 1023 n) size
    (cond (not (eqb (length sats) (length gs))) size
    (cond (not (eqb (length sats) (length zs))) size
    (cond (ltb 1953 (length sats)) size
    (refused_records1059 edition (records1059 sats gs zs)))))

-- the block of lists of the parts of records, written from bit p on; Kind of an edition that there is not comes before all else
unfoldable pub write1059 : ℕ → List ℕ → ℕ → List ℕ → List ℕ → List ℤ → Outcome ℕ (List ℕ)
write1059 edition s p sats gs zs =
    write_run (and_then (known_edition edition) (λ u. refused1059 edition (length s) sats gs zs)) s p (fields1059 (records1059 sats gs zs))
