-- The first k places of both lists are written. Assumes nothing.
use Rattle.std.proofs.Common.{◌≡◌, length}
use Rattle.bits.specs.Onto.{onto}
use Rattle.settings.specs.Block.{listed, number_in, priority_in}
use Rattle.settings.proofs.read.take.Given as goal

abbrev pub invariant-loop-k : goal.invariant-loop-k
invariant-loop-k l =
    (l.numbers ≡ onto (listed (number_in l.entries.block.now) 0 l.k) l.initial.numbers) × (length l.numbers ≡ length l.initial.numbers)
    × (l.priorities ≡ onto (listed (priority_in l.entries.block.now) 0 l.k) l.initial.priorities) × (length l.priorities ≡ length l.initial.priorities)
