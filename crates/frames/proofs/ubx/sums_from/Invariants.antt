-- The sums so far, continued over what is left, are those of the whole. Assumes nothing.
use mathlib.Core.Path.{◌≡◌}
use Prim.Native.Nat.{◌<◌}
use lib.ListN.{drop}
use Rattle.frames.specs.Ubx.{sums_from}
use Rattle.frames.proofs.ubx.sums_from.Given as goal

abbrev pub invariant-loop-byte : goal.invariant-loop-byte
invariant-loop-byte l =
    (sums_from (l.first, l.second) (drop l.byte-index l.bytes) ≡ sums_from (l.initial.first, l.initial.second) l.bytes) × (l.first < 256) × (l.second < 256)
