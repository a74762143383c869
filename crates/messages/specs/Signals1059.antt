-- The signals of message 1059 (DF380), by edition of their table. A further edition is one more table in the list. Assumes nothing.
use Rattle.std.specs.Prelude.{Bool, cond, ◌&&◌, List, [], ◌∷◌, ℕ, length, get_or, ltb}
use Rattle.bits.specs.Told.{Told, Accepted, kind}
use Rattle.messages.specs.Letters.{C, D, I, L, M, P, Q, S, W, X, Y}
use Rattle.messages.specs.Signals.{Signal, Entry, entry, Found, is_at, signal_of, number_of}

-- edition 1: 12 entries; the rest of the numbers are reserved
unfoldable pub edition1 : List Entry
edition1 =
    entry 0 1 C ∷
    entry 1 1 P ∷
    entry 2 1 W ∷
    entry 5 2 C ∷
    entry 6 2 D ∷
    entry 7 2 S ∷
    entry 8 2 L ∷
    entry 9 2 X ∷
    entry 10 2 P ∷
    entry 11 2 W ∷
    entry 14 5 I ∷
    entry 15 5 Q ∷
    []

-- edition 2: those of edition 1, and 3 1Y, 4 1M, 12 2Y, 13 2M
unfoldable pub edition2 : List Entry
edition2 =
    entry 0 1 C ∷
    entry 1 1 P ∷
    entry 2 1 W ∷
    entry 3 1 Y ∷
    entry 4 1 M ∷
    entry 5 2 C ∷
    entry 6 2 D ∷
    entry 7 2 S ∷
    entry 8 2 L ∷
    entry 9 2 X ∷
    entry 10 2 P ∷
    entry 11 2 W ∷
    entry 12 2 Y ∷
    entry 13 2 M ∷
    entry 14 5 I ∷
    entry 15 5 Q ∷
    []

-- the editions, counted from 0; there is no edition 0
abbrev pub editions : List (List Entry)
editions = [] ∷ edition1 ∷ edition2 ∷ []

-- there is such an edition
abbrev pub is_edition : ℕ → Bool
is_edition edition = ltb 0 edition && ltb edition (length editions)

-- any other is refused with Kind
unfoldable pub known_edition : ℕ → Told Unit
known_edition edition = cond (is_edition edition) (Accepted tt) kind

-- the table of an edition; any other has none
unfoldable pub signals1059 : ℕ → List Entry
signals1059 edition = get_or editions edition []

-- the number is one of the edition's, and not reserved
unfoldable pub is_signal1059 : ℕ → ℕ → Bool
is_signal1059 edition number = is_at (signal_of (signals1059 edition) number)

-- ---- looking up by edition

-- the signal that a number stands for in the edition, if it is there
unfoldable pub named_signal1059 : ℕ → ℕ → Told (Found Signal)
named_signal1059 edition number = cond (is_edition edition) (Accepted (signal_of (signals1059 edition) number)) kind

-- the number that stands for a signal in the edition, if there is one
unfoldable pub named_number1059 : ℕ → Signal → Told (Found ℕ)
named_number1059 edition s = cond (is_edition edition) (Accepted (number_of (signals1059 edition) s)) kind
