-- Each call of itself reads a shorter field. Assumes nothing.
use Rattle.bits.proofs.raw.+field_by_bytes.Given as goal

abbrev pub decreases-field_by_bytes : goal.decreases-field_by_bytes
decreases-field_by_bytes l = l.width
