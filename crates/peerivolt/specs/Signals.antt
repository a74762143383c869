-- The calls of the C surface over the signal tables. Assumes nothing.
use Rattle.std.specs.Prelude.{List, [], ◌∷◌, ℕ, ℤ}
use Rattle.bits.specs.Signed.{twos_bits}
use Rattle.messages.specs.Signals.{Signal, sig, Found, At, None}

-- [0] 1, [1] the band and [2] the letter of a signal of the table; 0 if there is none
abbrev pub signal_values : Found Signal → List ℕ
signal_values (At (sig band letter)) = 1 ∷ band ∷ letter ∷ []
signal_values None = 0 ∷ []

-- [0] 1 and [1] the number of a signal of the table; 0 if it has none
abbrev pub number_values : Found ℕ → List ℕ
number_values (At n) = 1 ∷ n ∷ []
number_values None = 0 ∷ []

-- [0] -1, 0 or 1, in 64 bits of two's complement
abbrev pub order_values : ℤ → List ℕ
order_values z = twos_bits 64 z ∷ []
