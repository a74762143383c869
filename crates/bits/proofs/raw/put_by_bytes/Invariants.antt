-- The loop has written the first k bits; each turn writes what one byte has of the field. Assumes nothing.
use lib.ListN.{length}
use mathlib.Core.Path.{◌≡◌}
use Prim.Native.Nat.{◌/◌, ◌^◌, ◌≤◌, ◌-◌}
use Rattle.bits.specs.Field.{put_field}
use Rattle.bits.proofs.raw.put_by_bytes.Given as goal

abbrev pub invariant-loop-k : goal.invariant-loop-k
invariant-loop-k l = (l.k ≤ l.width) × (l.bytes ≡ put_field l.initial.bytes l.start l.k (l.number / 2 ^ (l.width - l.k))) × (length l.bytes ≡ length l.initial.bytes)

abbrev pub decreases-loop-k : goal.decreases-loop-k
decreases-loop-k l = l.width - l.k
