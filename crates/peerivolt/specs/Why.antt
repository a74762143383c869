-- The call of the C surface that tells what became of a byte. Assumes nothing.
use Rattle.std.specs.Prelude.{List, [], ◌∷◌, ℕ}
use Rattle.frames.specs.Fate.{Fate, InFrame, NotD3, BadCheck, Held}

-- [0] 0 in a frame, 1 not D3, 2 a bad check, 3 held; [1] the place of the frame, of the byte itself or of the unfinished candidate; [2] the bytes of the frame, or from the candidate to the end; [3] the checksum sent, [4] the one computed
abbrev pub fate_values : Fate → List ℕ
fate_values (InFrame place length) = 0 ∷ place ∷ length ∷ 0 ∷ 0 ∷ []
fate_values (NotD3 place) = 1 ∷ place ∷ 0 ∷ 0 ∷ 0 ∷ []
fate_values (BadCheck place sent computed) = 2 ∷ place ∷ 0 ∷ sent ∷ computed ∷ []
fate_values (Held place length) = 3 ∷ place ∷ length ∷ 0 ∷ 0 ∷ []
