-- The three words, continued over what is left, are the whole. Assumes nothing.
use mathlib.Core.Path.{◌≡◌}
use Prim.Native.Nat.{◌-◌, ◌%◌, ◌^◌, ◌≤◌, ◌<◌}
use lib.ListN.{length, drop}
use Rattle.bits.specs.Crc.{crc_from}
use Rattle.bits.specs.FoldSteps.{rem, three}
use Rattle.bits.proofs.fold.words.Given as goal

abbrev pub invariant-loop-at : goal.invariant-loop-at
invariant-loop-at l =
    (l.at ≤ length l.bytes) × (l.at % 8 ≡ length l.bytes % 8) × (l.a < 2 ^ 64) × (l.b < 2 ^ 64) × (l.c < 2 ^ 64)
    × (crc_from (three l.a l.b l.c) (drop l.at l.bytes) ≡ crc_from (rem 64 l.w) (drop l.i l.bytes))

abbrev pub decreases-loop-at : goal.decreases-loop-at
decreases-loop-at l = length l.bytes - l.at
