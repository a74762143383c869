-- Signals and their numbers: what a table is, how it is read in both directions, and the tables of seven systems. Assumes nothing.
use Rattle.std.specs.Prelude.{◌≡◌, Bool, true, false, cond, ◌&&◌, ℕ, eqb, get_or}
use mathlib.Core.List.{List, [], ◌∷◌, Memᴰ}
use Rattle.messages.specs.Letters.{A, B, C, D, I, L, P, Q, S, W, X, Z}

-- a signal: its band, and its letter as an ASCII byte
pub data Signal : Type 0 where
  sig : ℕ → ℕ → Signal

-- a line of a table: number, band, letter
pub data Entry : Type 0 where
  entry : ℕ → ℕ → ℕ → Entry

-- what a table has at a place; outside a table the answer is None
pub data Found (A : Type 0) : Type 0 where
  At : A → Found A
  None : Found A

-- the table has something there
abbrev pub is_at : {A : Type 0} → Found A → Bool
is_at (At a) = true
is_at None = false

-- the signal that the number n stands for
unfoldable pub signal_of : List Entry → ℕ → Found Signal
signal_of [] n = None
signal_of (entry m b l ∷ t) n = cond (eqb m n) (At (sig b l)) (signal_of t n)

-- the number that stands for a signal
unfoldable pub number_of : List Entry → Signal → Found ℕ
number_of [] (sig band letter) = None
number_of (entry n b l ∷ t) (sig band letter) = cond (eqb b band && eqb l letter) (At n) (number_of t (sig band letter))

-- the two undo each other at each entry of a table
pub record Undoes (t : List Entry) : Type 0 where
  pub there : {n b l : ℕ} → Memᴰ (entry n b l) t → signal_of t n ≡ At (sig b l)
  pub back : {n b l : ℕ} → Memᴰ (entry n b l) t → number_of t (sig b l) ≡ At n

-- ---- the tables

-- GPS: 15 entries
unfoldable pub gps : List Entry
gps =
    entry 2 1 C ∷
    entry 3 1 P ∷
    entry 4 1 W ∷
    entry 8 2 C ∷
    entry 9 2 P ∷
    entry 10 2 W ∷
    entry 15 2 S ∷
    entry 16 2 L ∷
    entry 17 2 X ∷
    entry 22 5 I ∷
    entry 23 5 Q ∷
    entry 24 5 X ∷
    entry 30 1 S ∷
    entry 31 1 L ∷
    entry 32 1 X ∷
    []

-- GLONASS: 4 entries
unfoldable pub glo : List Entry
glo =
    entry 2 1 C ∷
    entry 3 1 P ∷
    entry 8 2 C ∷
    entry 9 2 P ∷
    []

-- Galileo: 19 entries
unfoldable pub gal : List Entry
gal =
    entry 2 1 C ∷
    entry 3 1 A ∷
    entry 4 1 B ∷
    entry 5 1 X ∷
    entry 6 1 Z ∷
    entry 8 6 C ∷
    entry 9 6 A ∷
    entry 10 6 B ∷
    entry 11 6 X ∷
    entry 12 6 Z ∷
    entry 14 7 I ∷
    entry 15 7 Q ∷
    entry 16 7 X ∷
    entry 18 8 I ∷
    entry 19 8 Q ∷
    entry 20 8 X ∷
    entry 22 5 I ∷
    entry 23 5 Q ∷
    entry 24 5 X ∷
    []

-- SBAS: 4 entries
unfoldable pub sbas : List Entry
sbas =
    entry 2 1 C ∷
    entry 22 5 I ∷
    entry 23 5 Q ∷
    entry 24 5 X ∷
    []

-- QZSS: 13 entries
unfoldable pub qzss : List Entry
qzss =
    entry 2 1 C ∷
    entry 9 6 S ∷
    entry 10 6 L ∷
    entry 11 6 X ∷
    entry 15 2 S ∷
    entry 16 2 L ∷
    entry 17 2 X ∷
    entry 22 5 I ∷
    entry 23 5 Q ∷
    entry 24 5 X ∷
    entry 30 1 S ∷
    entry 31 1 L ∷
    entry 32 1 X ∷
    []

-- BeiDou: 16 entries
unfoldable pub bds : List Entry
bds =
    entry 2 2 I ∷
    entry 3 2 Q ∷
    entry 4 2 X ∷
    entry 8 6 I ∷
    entry 9 6 Q ∷
    entry 10 6 X ∷
    entry 14 7 I ∷
    entry 15 7 Q ∷
    entry 16 7 X ∷
    entry 22 5 D ∷
    entry 23 5 P ∷
    entry 24 5 X ∷
    entry 25 7 D ∷
    entry 30 1 D ∷
    entry 31 1 P ∷
    entry 32 1 X ∷
    []

-- NavIC: 2 entries
unfoldable pub navic : List Entry
navic =
    entry 8 9 A ∷
    entry 22 5 A ∷
    []

-- the tables by system: 0 gps, 1 glo, 2 gal, 3 sbas, 4 qzss, 5 bds, 6 navic
abbrev pub tables : List (List Entry)
tables = gps ∷ glo ∷ gal ∷ sbas ∷ qzss ∷ bds ∷ navic ∷ []

-- the table of a system; any other system has none
unfoldable pub table_of : ℕ → List Entry
table_of system = get_or tables system []
