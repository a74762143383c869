-- The frame at the front of an area. Assumes nothing.
use Rattle.std.proofs.Common.{◌≡◌, ℕ, ◌-◌, ◌<◌, ◌≤◌, List, [], length, take, le-ltb, lt-ltb}
use native.Mathlib.Nat.{sub-zero}
use Rattle.reading.specs.Number.{frame_in}

pub not_there : (s : List ℕ) (n : ℕ) → length s < n → [] ≡ frame_in s n
not_there s n h = rw (lt-ltb (length s) n h)

pub is_there : (s : List ℕ) (n : ℕ) → n ≤ length s → take (n - 0) s ≡ frame_in s n
is_there s n h = rw (le-ltb (length s) n h, sub-zero)
