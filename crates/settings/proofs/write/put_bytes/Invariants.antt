-- The first i bytes are written. Assumes nothing.
use mathlib.Core.Path.{◌≡◌}
use lib.ListN.{length}
use Rattle.bits.specs.Onto.{onto}
use Rattle.settings.specs.Block.{listed, byte_of}
use Rattle.settings.specs.Edition.{number_of}
use Rattle.settings.proofs.write.put_bytes.Given as goal

abbrev pub invariant-loop-i : goal.invariant-loop-i
invariant-loop-i l = (l.out ≡ onto (listed (byte_of (number_of l.edition) l.index l.numbers l.priorities) 0 l.i) l.initial.out) × (length l.out ≡ length l.initial.out)
