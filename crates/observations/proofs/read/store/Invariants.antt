-- The loop's invariant: what is left to store are the observations from `k` on. Assumes nothing.
use mathlib.Core.Path.{◌≡◌}
use Prim.Native.Nat.{◌+◌, ◌-◌, ◌*◌, ◌≤◌}
use lib.ListN.{length}
use Rattle.observations.specs.Lists.{lists}
use Rattle.observations.specs.Steps.{observations_at, stored, Alike}
use Rattle.observations.proofs.read.store.Given as goal

abbrev pub invariant-loop-k : goal.invariant-loop-k
invariant-loop-k l =
    (l.at + (l.n - l.k) * 58 ≤ length l.bytes * 8)
    × Alike (lists l.satellites l.codes l.pseudoranges l.phases l.locks) (length l.initial.satellites)
    × (stored 0 (observations_at l.bytes l.n 64) (lists l.initial.satellites l.initial.codes l.initial.pseudoranges l.initial.phases l.initial.locks) ≡ stored l.k (observations_at l.bytes (l.n - l.k) l.at) (lists l.satellites l.codes l.pseudoranges l.phases l.locks))
