-- Reading a settings block. Assumes nothing.
use Rattle.std.specs.Prelude.{Bool, true, false, cond, not, List, ℕ, zero, suc, ◌-◌, ◌*◌, length, get_or, take, ltb, eqb}
use Rattle.bits.specs.Told.{Told, Accepted, size, kind, range, bad_check}
use Rattle.bits.specs.Outcome.{Outcome, outcome, refusing}
use Rattle.bits.specs.Field.{field}
use Rattle.bits.specs.Crc.{crc}
use Rattle.bits.specs.Onto.{onto}
use Rattle.settings.specs.Block.{first_bad, index_in, edition_in, count_in, entry_place, number_in, priority_in, numbers_in, priorities_in}

-- the checksum in the last three bytes, and that of bytes 0 to 508
abbrev pub sent_sum : List ℕ → ℕ
sent_sum s = field s (509 * 8) 24

abbrev pub own_sum : List ℕ → ℕ
own_sum s = crc (take 509 s)

-- a reader of edition 1 reads edition 1, one of edition 2 reads both, and there is no other
unfoldable pub can_read : ℕ → ℕ → Bool
can_read reader edition = cond (eqb reader 1) (eqb edition 1) (cond (eqb reader 2) (cond (eqb edition 1) true (eqb edition 2)) false)

-- the n bytes from byte i on are zeros
unfoldable pub zeros : List ℕ → ℕ → ℕ → Bool
zeros s i zero = true
zeros s i (suc n) = cond (eqb (get_or s i 0) 0) (zeros s (suc i) n) false

-- the bytes behind the entries, up to the checksum, are zeros
abbrev pub filled : List ℕ → Bool
filled s = zeros s (entry_place (edition_in s) (count_in s)) (509 - entry_place (edition_in s) (count_in s))

-- the first entry with a bad number or priority; the count if there is none
abbrev pub bad_in : List ℕ → ℕ
bad_in s = first_bad (edition_in s) (number_in s) (priority_in s) 0 (count_in s)

-- what a block that was read tells: how many numbers, and its edition
pub record Found : Type 0 where
  pub count : ℕ
  pub edition : ℕ

abbrev pub found : ℕ → ℕ → Found
found n e = record { count = n; edition = e }

-- what is left to decide once length, checksum, edition, index and count are good: the first bad number or priority, then filler
unfoldable pub judge_entries : List ℕ → Told Found
judge_entries s =
    cond (ltb (bad_in s) (count_in s)) (range (bad_in s))
    (cond (not (filled s)) (range 0)
    (Accepted (found (count_in s) (edition_in s))))

-- A block for a reader that expects an index, in the order of the checks: length, checksum, edition, index, count, then the entries and the filler.
unfoldable pub judge : List ℕ → ℕ → ℕ → Told Found
judge s reader index =
    cond (not (eqb (length s) 512)) size
    (cond (not (eqb (sent_sum s) (own_sum s))) (bad_check (sent_sum s) (own_sum s))
    (cond (not (can_read reader (edition_in s))) kind
    (cond (not (eqb (index_in s) index)) (range 0)
    (cond (ltb 64 (count_in s)) (range 0)
    (judge_entries s)))))

-- Reading into two lists of exactly 64 places, else Size: what was found stands in their first places, and later places stay.
unfoldable pub read_settings : List ℕ → ℕ → ℕ → List ℕ → List ℕ → Outcome Found (List ℕ × List ℕ)
read_settings s reader index numbers priorities =
    refusing (numbers, priorities)
    (cond (not (eqb (length numbers) 64)) size
    (cond (not (eqb (length priorities) 64)) size
    (judge s reader index)))
    (λ f. outcome (Accepted f) (onto (numbers_in s) numbers, onto (priorities_in s) priorities))
