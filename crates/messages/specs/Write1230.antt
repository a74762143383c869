-- Writing the bias block of message 1230. Assumes nothing.
use Rattle.std.specs.Prelude.{Bool, cond, not, List, [], ℕ, length, ℤ, eqb, ltb}
use Rattle.bits.specs.Told.{Told, and_then, size, signal}
use Rattle.bits.specs.Outcome.{Outcome}
use Rattle.bits.specs.Fields.{Field}
use Rattle.formats.specs.Written.{fine, first_fault}
use Rattle.messages.specs.Records.{Rec1230, records1230}
use Rattle.messages.specs.Layout1230.{mask_signals, block1230, grouped1230}
use Rattle.messages.specs.Writer.{is_among, first_repeat, write_run}

-- k is in the list
abbrev pub is_in : ℕ → List ℕ → Bool
is_in k js = is_among eqb k js

-- the signal of record i, which the mask may lack
unfoldable pub fault1230 : ℕ → ℕ → Told Unit
fault1230 i g = cond (not (is_in g mask_signals)) (signal i) fine

-- the mask, the biases in its order
unfoldable pub fields1230 : List Rec1230 → List Field
fields1230 rs = block1230.fields (grouped1230 rs)

-- a call: Size of n bytes of data, of unequal lists, of over 4 records; the first Signal; the first Duplicate
unfoldable pub refused1230 : ℕ → List ℕ → List ℤ → Told Unit
refused1230 n gs zs =
    cond (ltb 1023 n) size
    (cond (not (eqb (length gs) (length zs))) size
    (cond (ltb 4 (length gs)) size
    (and_then (first_fault fault1230 0 gs) (λ u.
    first_repeat eqb 0 [] gs))))

-- the block of lists of the parts of records, written from bit p on
unfoldable pub write1230 : List ℕ → ℕ → List ℕ → List ℤ → Outcome ℕ (List ℕ)
write1230 s p gs zs = write_run (refused1230 (length s) gs zs) s p (fields1230 (records1230 gs zs))
