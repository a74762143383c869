-- Writing message 1001. Assumes nothing.
use Rattle.std.specs.Prelude.{cond, not, List, ℕ, ltb}
use Rattle.bits.specs.Told.{Told, range, satellite, too_many}
use Rattle.bits.specs.Outcome.{Outcome, refusing}
use Rattle.formats.specs.Written.{fine, first_fault, put_run}
use Rattle.observations.specs.declared.answer.Header.{Header}
use Rattle.observations.specs.declared.answer.Observation.{Observation}
use Rattle.observations.specs.Message1001.{observation1001, message, message1001, header_fits}
use Rattle.observations.specs.Lists.{Lists, places, rows}
use Rattle.observations.specs.Read1001.{sizes}

-- observation i: a satellite above 63; a number that does not fit its field
unfoldable pub fault1001 : ℕ → Observation → Told Unit
fault1001 i o =
    cond (ltb 63 o.satellite) (satellite i)
    (cond (not (observation1001.fits o)) (range i)
    fine)

-- a call that writes the message from bit 0 on: the sizes; Range with 0 of the header; the first faulty observation; TooMany; Room
unfoldable pub write1001 : List ℕ → Header → Lists → Outcome ℕ (List ℕ)
write1001 s h l =
    refusing s (sizes s l) (λ u.
    refusing s (cond (not (header_fits h)) (range 0) fine) (λ u.
    refusing s (first_fault fault1001 0 (rows l)) (λ u.
    refusing s (cond (ltb 31 (places l)) (too_many 32) fine) (λ u.
    put_run s 0 (message1001.fields (message h (rows l)))))))
