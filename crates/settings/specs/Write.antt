-- Writing a settings block. Assumes nothing.
use Rattle.std.specs.Prelude.{cond, not, List, ℕ, length, get_or, ltb, eqb}
use Rattle.bits.specs.Told.{Told, Accepted, size, kind, range, room}
use Rattle.bits.specs.Outcome.{Outcome, outcome, refusing}
use Rattle.bits.specs.Onto.{onto}
use Rattle.settings.specs.Block.{known, first_bad, block_of}

-- the first entry of the lists with a bad number or priority; their length if there is none
abbrev pub bad_of : ℕ → List ℕ → List ℕ → ℕ
bad_of edition numbers priorities = first_bad edition (λ k. get_or numbers k 0) (λ k. get_or priorities k 0) 0 (length numbers)

-- The refusals of writing n bytes of output, in their order: an unknown edition; lists of unequal length or over 64; an index above 65,535; the first bad number or priority; the output.
unfoldable pub may_write : ℕ → ℕ → List ℕ → List ℕ → ℕ → Told ℕ
may_write edition index numbers priorities n =
    cond (not (known edition)) kind
    (cond (not (eqb (length numbers) (length priorities))) size
    (cond (ltb 64 (length numbers)) size
    (cond (ltb 65535 index) (range 0)
    (cond (ltb (bad_of edition numbers priorities) (length numbers)) (range (bad_of edition numbers priorities))
    (cond (ltb n 512) (room 512)
    (Accepted 512))))))

-- Writing the block to the front of the output, of which later bytes stay.
unfoldable pub write_settings : ℕ → ℕ → List ℕ → List ℕ → List ℕ → Outcome ℕ (List ℕ)
write_settings edition index numbers priorities out =
    refusing out (may_write edition index numbers priorities (length out))
    (λ n. outcome (Accepted n) (onto (block_of edition index numbers priorities) out))
