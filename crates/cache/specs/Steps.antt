-- How the code compares keys. No promise to a caller rests on this file. Assumes nothing.
use Rattle.std.specs.Prelude.{ℕ, ◌+◌, ◌*◌, ◌^◌}

-- four numbers of 16 bits as one
unfoldable pub as_one : ℕ → ℕ → ℕ → ℕ → ℕ
as_one p s a g = p + s * 2 ^ 16 + a * 2 ^ 32 + g * 2 ^ 48
