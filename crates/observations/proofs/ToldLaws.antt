-- An answer of the code is fixed by what it tells, and so by a statement, and with it the lent memory; a refused call leaves that as it came. Assumes nothing.
use mathlib.Core.Path.{◌≡◌, ap}
use mathlib.Core.Bool.{cond, not}
use mathlib.Core.List.{List}
use Rattle.std.specs.Prelude.{Result}
use Prim.Native.Nat.{ℕ}
use lib.Dec.{ltb}
use lib.ListN.{length}
use Rattle.bits.specs.Told.{OneToOne, and_then, range, too_many}
use Rattle.bits.specs.Outcome.{Outcome, outcome}
use Rattle.bits.specs.declared.refusal.Refusal.{Refusal}
use Rattle.bits.proofs.RefusalLaws.{told_one_to_one}
use Rattle.bits.proofs.OutcomeLaws.{Keeps, accepted_keeps, refusing_keeps, only_outcome}
use Rattle.formats.specs.Written.{fine, first_fault}
use Rattle.formats.proofs.WrittenLaws.{run_keeps}
use Rattle.observations.specs.declared.answer.Header.{Header}
use Rattle.observations.specs.declared.answer.Message.{Message}
use Rattle.observations.specs.Message1001.{message, message1001, header_fits}
use Rattle.observations.specs.Lists.{Lists, places, rows, filled}
use Rattle.observations.specs.Read1001.{Seen, seen, sizes, room_for, read1001}
use Rattle.observations.specs.Write1001.{fault1001, write1001}
use Rattle.observations.specs.Answers.{told_read, told_written}

-- ---- reading

seen_one : (x y : Message) → seen x.header x.count x.end ≡ seen y.header y.count y.end → x ≡ y
seen_one x y e = ap (λ (s : Seen). record { header = s.header; count = s.count; end = s.end }) e

pub read_one_to_one : OneToOne told_read
read_one_to_one = told_one_to_one (λ m. seen m.header m.count m.end) seen_one

-- two outcomes that the statement of `read` allows are equal, the lent lists too
pub only_read : (d : Outcome Seen Lists) {x y : Result Message Refusal} {l m : Lists} → outcome (told_read x) l ≡ d → outcome (told_read y) m ≡ d → (x ≡ y) × (l ≡ m)
only_read d = only_outcome told_read read_one_to_one d

-- a refused reading leaves the lists as they came
pub read_keeps : (s : List ℕ) (l : Lists) → Keeps l (read1001 s l)
unfolding read1001
read_keeps s l =
    refusing_keeps l (sizes s l) _ (λ u.
    refusing_keeps l (and_then (message1001.reads s 0) (room_for (places l))) _ (λ r.
    accepted_keeps l (seen r.value.header (length r.value.observations) r.next) (filled r.value.observations l)))

-- ---- writing

pub written_one_to_one : OneToOne told_written
written_one_to_one = told_one_to_one (λ q. q) (λ x y e. e)

-- two outcomes that the statement of `write` allows are equal, the data too
pub only_write : (d : Outcome ℕ (List ℕ)) {x y : Result ℕ Refusal} {s t : List ℕ} → outcome (told_written x) s ≡ d → outcome (told_written y) t ≡ d → (x ≡ y) × (s ≡ t)
only_write d = only_outcome told_written written_one_to_one d

-- a refused writing leaves the data as they came
pub write_keeps : (s : List ℕ) (h : Header) (l : Lists) → Keeps s (write1001 s h l)
unfolding write1001
write_keeps s h l =
    refusing_keeps s (sizes s l) _ (λ u.
    refusing_keeps s (cond (not (header_fits h)) (range 0) fine) _ (λ u.
    refusing_keeps s (first_fault fault1001 0 (rows l)) _ (λ u.
    refusing_keeps s (cond (ltb 31 (places l)) (too_many 32) fine) _ (λ u.
    run_keeps s 0 (message1001.fields (message h (rows l)))))))
