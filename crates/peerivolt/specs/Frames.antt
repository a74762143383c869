-- The frame calls of the C surface. Assumes nothing.
use Rattle.std.specs.Prelude.{List, [], ◌∷◌, ℕ}
use Rattle.std.proofs.Math.Option.{Option, none, some}
use Rattle.frames.specs.Frame.{Whole}

-- [2] 1 and [3] the message number, or 0 and 0
abbrev pub message_number : Option ℕ → List ℕ → List ℕ
message_number none vs = 0 ∷ 0 ∷ vs
message_number (some n) vs = 1 ∷ n ∷ vs

-- [0] the frame's length, [1] that of its data, [2] and [3] the message number, [4] the checksum
abbrev pub whole_values : Whole → List ℕ
whole_values w = w.length ∷ w.carried ∷ message_number w.number (w.sum ∷ [])
