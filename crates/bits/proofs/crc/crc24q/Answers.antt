-- Fewer than eight bytes by the table, else words. Assumes nothing.
use mathlib.Core.Path.{sym, ◌∙◌}
use Rattle.bits.proofs.CrcLaws.{crc_is}
use Rattle.bits.proofs.crc.crc24q.Goals as goal

pub returns-then-bytes-lt8 : goal.returns-then-bytes-lt8
returns-then-bytes-lt8 c = c.by_table.ensures ∙ sym (crc_is _)

pub returns : goal.returns
returns c = c.by_words.ensures
