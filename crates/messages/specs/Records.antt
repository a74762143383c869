-- Records of raw biases, in lent lists of their parts. Assumes nothing.
use Rattle.std.specs.Prelude.{List, [], ◌∷◌, ℕ, ℤ}

-- a record of message 1059: satellite, signal, raw bias
pub data Rec1059 : Type 0 where
  rec1059 : ℕ → ℕ → ℤ → Rec1059

-- its satellite
abbrev pub satellite_of : Rec1059 → ℕ
satellite_of (rec1059 a g z) = a

-- its signal
abbrev pub signal_of1059 : Rec1059 → ℕ
signal_of1059 (rec1059 a g z) = g

-- its raw bias
abbrev pub bias_of1059 : Rec1059 → ℤ
bias_of1059 (rec1059 a g z) = z

-- a record of message 1230: signal, raw bias
pub data Rec1230 : Type 0 where
  rec1230 : ℕ → ℤ → Rec1230

-- its signal
abbrev pub signal_of1230 : Rec1230 → ℕ
signal_of1230 (rec1230 g z) = g

-- its raw bias
abbrev pub bias_of1230 : Rec1230 → ℤ
bias_of1230 (rec1230 g z) = z

-- lists of the parts of 1059 records, of one length, as records
unfoldable pub records1059 : List ℕ → List ℕ → List ℤ → List Rec1059
records1059 (a ∷ sats) (g ∷ gs) (z ∷ zs) = rec1059 a g z ∷ records1059 sats gs zs
records1059 (a ∷ sats) (g ∷ gs) [] = []
records1059 (a ∷ sats) [] zs = []
records1059 [] gs zs = []

-- lists of the parts of 1230 records, of one length, as records
unfoldable pub records1230 : List ℕ → List ℤ → List Rec1230
records1230 (g ∷ gs) (z ∷ zs) = rec1230 g z ∷ records1230 gs zs
records1230 (g ∷ gs) [] = []
records1230 [] zs = []

-- what a reader answers where it accepts: how many records there are, and the end bit
pub record Counted : Type 0 where
  pub count : ℕ
  pub end : ℕ

-- n records, and the end bit q
abbrev pub counted : ℕ → ℕ → Counted
counted n q = record { count = n; end = q }
