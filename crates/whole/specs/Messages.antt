-- Whole messages: a front, and the block behind it. Assumes nothing.
use Rattle.std.specs.Prelude.{cond, not, List, ℕ, length, ℤ, eqb, ltb}
use Rattle.bits.specs.Told.{Told, size, range, kind}
use Rattle.bits.specs.Outcome.{Outcome, outcome, refusing}
use Rattle.formats.specs.Written.{fine}
use Rattle.messages.specs.Read1059.{read1059}
use Rattle.messages.specs.Read1230.{read1230}
use Rattle.messages.specs.Signals1059.{is_edition}
use Rattle.messages.specs.Write1059.{write1059}
use Rattle.messages.specs.Write1230.{write1230}
use Rattle.whole.specs.declared.answer.Header1059.{Header1059}
use Rattle.whole.specs.declared.answer.Header1230.{Header1230}
use Rattle.whole.specs.Headers.{front1059, header_fits1059, fields1059, front1230, header_fits1230, fields1230}
use Rattle.whole.specs.Whole.{Whole, headed, fronted}

-- ---- 1059

-- Size of the data, Size of unequal lists
unfoldable pub sizes1059 : List ℕ → List ℕ → List ℕ → List ℤ → Told Unit
sizes1059 s sats gs zs =
    cond (ltb 1023 (length s)) size
    (cond (not (eqb (length sats) (length gs))) size
    (cond (not (eqb (length sats) (length zs))) size
    fine))

-- a call that reads the message: the sizes; Short of the number, Kind, Short of the header; then the block behind it as its own reader has it
unfoldable pub read_message1059 : List ℕ → List ℕ → List ℕ → List ℤ → Outcome (Whole Header1059) (List ℕ × List ℕ × List ℤ)
read_message1059 s sats gs zs =
    refusing (sats, gs, zs) (sizes1059 s sats gs zs) (λ u.
    refusing (sats, gs, zs) (front1059.reads s 0) (λ h.
    let w = read1059 s h.next sats gs zs in
    outcome (headed h.value w.answer) w.areas))

-- what is refused before the records: Kind of the edition, the sizes, over 1,953 records, Range with 0 of the header
unfoldable pub refused1059 : ℕ → ℕ → Header1059 → List ℕ → List ℕ → List ℤ → Told Unit
refused1059 edition n h sats gs zs =
    cond (not (is_edition edition)) kind
    (cond (ltb 1023 n) size
    (cond (not (eqb (length sats) (length gs))) size
    (cond (not (eqb (length sats) (length zs))) size
    (cond (ltb 1953 (length sats)) size
    (cond (not (header_fits1059 h)) (range 0)
    fine)))))

-- a call that writes the message from bit 0 on: then the block behind bit 61 as its own writer has it, and the front before it
unfoldable pub write_message1059 : ℕ → List ℕ → Header1059 → List ℕ → List ℕ → List ℤ → Outcome ℕ (List ℕ)
write_message1059 edition s h sats gs zs =
    refusing s (refused1059 edition (length s) h sats gs zs) (λ u. fronted 61 (fields1059 h) (write1059 edition s 61 sats gs zs))

-- ---- 1230

-- Size of the data, Size of unequal lists
unfoldable pub sizes1230 : List ℕ → List ℕ → List ℤ → Told Unit
sizes1230 s gs zs = cond (ltb 1023 (length s)) size (cond (not (eqb (length gs) (length zs))) size fine)

-- a call that reads the message, as of 1059
unfoldable pub read_message1230 : List ℕ → List ℕ → List ℤ → Outcome (Whole Header1230) (List ℕ × List ℤ)
read_message1230 s gs zs =
    refusing (gs, zs) (sizes1230 s gs zs) (λ u.
    refusing (gs, zs) (front1230.reads s 0) (λ h.
    let w = read1230 s h.next gs zs in
    outcome (headed h.value w.answer) w.areas))

-- what is refused before the records: the sizes, over 4 records, Range with 0 of the header
unfoldable pub refused1230 : ℕ → Header1230 → List ℕ → List ℤ → Told Unit
refused1230 n h gs zs =
    cond (ltb 1023 n) size
    (cond (not (eqb (length gs) (length zs))) size
    (cond (ltb 4 (length gs)) size
    (cond (not (header_fits1230 h)) (range 0)
    fine)))

-- a call that writes the message from bit 0 on, as of 1059, the block behind bit 28
unfoldable pub write_message1230 : List ℕ → Header1230 → List ℕ → List ℤ → Outcome ℕ (List ℕ)
write_message1230 s h gs zs = refusing s (refused1230 (length s) h gs zs) (λ u. fronted 28 (fields1230 h) (write1230 s 28 gs zs))
