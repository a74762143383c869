-- Message 1001 as the standard's table has it. Assumes nothing.
use Rattle.std.specs.Prelude.{List, Bool, ◌&&◌, ℕ, length, ℤ}
use Rattle.bits.specs.Signed.{fits_unsigned}
use Rattle.formats.specs.Format.{Format, unsigned, twos, next, ◌then◌, times, shaped, numbered}
use Rattle.observations.specs.declared.answer.Header.{Header}
use Rattle.observations.specs.declared.answer.Observation.{Observation}

-- ---- one observation

-- its numbers in the order of the wire
abbrev pub Numbers : Type 0
Numbers = ℕ × (ℕ × (ℕ × (ℤ × ℕ)))

abbrev pub of_observation : Observation → Numbers
of_observation o = (o.satellite, (o.code, (o.pseudorange, (o.phase, o.lock))))

abbrev pub to_observation : Numbers → Observation
to_observation x =
    record {
      satellite = x.0;
      code = x.1.0;
      pseudorange = x.1.1.0;
      phase = x.1.1.1.0;
      lock = x.1.1.1.1;
    }

-- DF009 satellite (6 bits), DF010 code indicator (1), DF011 pseudorange (24), DF012 phase range less pseudorange (20, two's complement), DF013 lock time indicator (7)
abbrev pub observation1001 : Format Observation
observation1001 = shaped to_observation of_observation (unsigned 6 then unsigned 1 then unsigned 24 then twos 20 then unsigned 7)

-- ---- the message

-- what the message says: its header, and the observations
pub record Message : Type 0 where
  pub header : Header
  pub observations : List Observation

abbrev pub message : Header → List Observation → Message
message h os = record { header = h; observations = os }

-- in the order of the wire: the count stands before two more numbers of the header
abbrev pub Parts : Type 0
Parts = ℕ × (ℕ × (ℕ × (ℕ × (ℕ × (ℕ × List Observation)))))

abbrev pub of_message : Message → Parts
of_message m =
    let h = m.header in
    (h.station, (h.epoch, (h.synchronous, (length m.observations, (h.smoothing, (h.interval, m.observations))))))

abbrev pub to_message : Parts → Message
to_message x =
    record {
      header = record { station = x.0; epoch = x.1.0; synchronous = x.1.1.0; smoothing = x.1.1.1.1.0; interval = x.1.1.1.1.1.0 };
      observations = x.1.1.1.1.1.1;
    }

-- behind the count n: DF007 divergence-free smoothing (1), DF008 smoothing interval (3), n observations
abbrev pub rest1001 : ℕ → Format (ℕ × (ℕ × List Observation))
rest1001 n = unsigned 1 then unsigned 3 then times n observation1001

-- DF003 station (12), DF004 epoch (30), DF005 synchronous flag (1), DF006 how many observations (5), and the rest
abbrev pub parts1001 : Format Parts
parts1001 = unsigned 12 then unsigned 30 then unsigned 1 then next (unsigned 5) rest1001

-- DF002 the number 1001 (12), and the parts
abbrev pub message1001 : Format Message
message1001 = numbered 1001 (shaped to_message of_message parts1001)

-- the numbers of a header fit their fields
abbrev pub header_fits : Header → Bool
header_fits h =
    fits_unsigned 12 h.station
    && (fits_unsigned 30 h.epoch
    && (fits_unsigned 1 h.synchronous
    && (fits_unsigned 1 h.smoothing
    && fits_unsigned 3 h.interval)))
