-- What stands before the block of a message, as the standard's tables have it. Assumes nothing.
use Rattle.std.specs.Prelude.{Bool, List, ℕ}
use Rattle.bits.specs.Fields.{Field}
use Rattle.formats.specs.Format.{Format, unsigned, ◌then◌, shaped, numbered}
use Rattle.whole.specs.declared.answer.Header1059.{Header1059}
use Rattle.whole.specs.declared.answer.Header1230.{Header1230}

-- ---- 1059

abbrev pub of1059 : Header1059 → ℕ × (ℕ × (ℕ × (ℕ × (ℕ × ℕ))))
of1059 h = (h.epoch, (h.interval, (h.multiple, (h.iod, (h.provider, h.solution)))))

abbrev pub to1059 : ℕ × (ℕ × (ℕ × (ℕ × (ℕ × ℕ)))) → Header1059
to1059 x = record { epoch = x.0; interval = x.1.0; multiple = x.1.1.0; iod = x.1.1.1.0; provider = x.1.1.1.1.0; solution = x.1.1.1.1.1 }

-- epoch (20), update interval (4), multiple message flag (1), IOD (4), provider (16), solution (4)
abbrev pub header1059 : Format Header1059
header1059 = shaped to1059 of1059 (unsigned 20 then unsigned 4 then unsigned 1 then unsigned 4 then unsigned 16 then unsigned 4)

-- the number 1059 (12), and the header
abbrev pub front1059 : Format Header1059
front1059 = numbered 1059 header1059

-- the numbers of a header fit their fields
abbrev pub header_fits1059 : Header1059 → Bool
header_fits1059 h = front1059.fits h

-- the fields before the block
abbrev pub fields1059 : Header1059 → List Field
fields1059 h = front1059.fields h

-- ---- 1230

abbrev pub of1230 : Header1230 → ℕ × (ℕ × ℕ)
of1230 h = (h.station, (h.indicator, h.reserved))

abbrev pub to1230 : ℕ × (ℕ × ℕ) → Header1230
to1230 x = record { station = x.0; indicator = x.1.0; reserved = x.1.1 }

-- reference station (12), indicator (1), reserved bits, kept as read (3)
abbrev pub header1230 : Format Header1230
header1230 = shaped to1230 of1230 (unsigned 12 then unsigned 1 then unsigned 3)

-- the number 1230 (12), and the header
abbrev pub front1230 : Format Header1230
front1230 = numbered 1230 header1230

-- the numbers of a header fit their fields
abbrev pub header_fits1230 : Header1230 → Bool
header_fits1230 h = front1230.fits h

-- the fields before the block
abbrev pub fields1230 : Header1230 → List Field
fields1230 h = front1230.fields h
