-- A run of fields that is put where it is known to fit, for private functions. No promise to a caller rests on this file. Assumes nothing.
use Rattle.std.specs.Prelude.{◌≡◌, List, ℕ, ◌+◌, ◌*◌, ◌≤◌, length}
use Rattle.bits.specs.Fields.{Field, total, put_all}

-- the data is not too long, and reaches so far
pub record RoomFor (s : List ℕ) (p : ℕ) (fs : List Field) : Type 0 where
  pub few : length s ≤ 1023
  pub within : p + total fs ≤ length s * 8

-- the data t with the run in it, and the bit q behind it
pub record IsPut (s : List ℕ) (p : ℕ) (fs : List Field) (t : List ℕ) (q : ℕ) : Type 0 where
  pub end : q ≡ p + total fs
  pub left : t ≡ put_all s p fs
