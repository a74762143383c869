-- What a pen stands for. No promise to a caller rests on this file. Assumes nothing.
use Rattle.std.specs.Prelude.{List, ℕ, ◌*◌, ◌/◌, ◌%◌}
use Rattle.bits.specs.Field.{put_field}

-- the data with what a pen at bit p still holds: the last `p % 32` of the bits v, behind the last whole four bytes before p
unfoldable pub drawn : List ℕ → ℕ → ℕ → List ℕ
drawn s p v = put_field s (p / 32 * 32) (p % 32) v
