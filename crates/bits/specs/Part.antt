-- A part of a caller's own bytes. Assumes nothing.
use Rattle.std.specs.Prelude.{List, ℕ, ◌+◌, take, drop}

-- the place where it starts, and its bytes
pub record Part : Type 0 where
  pub place : ℕ
  pub bytes : List ℕ

-- n bytes of s from place i on
abbrev pub part : ℕ → ℕ → List ℕ → Part
part i n s = record { place = i; bytes = take n (drop i s) }

-- a slice as it is lent: where it points, an area of memory and an offset in it; and its bytes
pub record Lent : Type 0 where
  pub pointer : ℕ × ℕ
  pub bytes : List ℕ

abbrev pub lent : ℕ × ℕ → List ℕ → Lent
lent p s = record { pointer = p; bytes = s }

-- a part of the slice that points to p
abbrev pub within : ℕ × ℕ → Part → Lent
within p q = lent (p.0, q.place + p.1) q.bytes
