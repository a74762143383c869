-- A frame that is handed out, and its message number. Assumes nothing.
use Rattle.std.specs.Prelude.{ℕ, cond, List, [], length, take, nat_lt}
use Rattle.std.proofs.Math.Option.{Option}
use Rattle.frames.specs.Frame.{number_of, inside_part}

-- the frame of n bytes at the front of s; nothing if s does not have them
abbrev pub frame_in : List ℕ → ℕ → List ℕ
frame_in s n = cond (nat_lt (length s) n) [] (take n s)

-- the message number of a frame's data
abbrev pub number_in : List ℕ → Option ℕ
number_in f = number_of (inside_part f).bytes
