-- Numbers as text, with blanks before them up to a width. Assumes nothing.
use Rattle.std.specs.Prelude.{◌≡◌, Bool, true, false, List, [], ◌∷◌, ℕ, suc, ◌-◌, ◌/◌, min, max, length, ℤ, pos, negsuc}
use Rattle.io.specs.Digits.{last_digits, IsDigitCount}
use Rattle.printing.specs.Gathered.{Gathered, add, blank}
use Rattle.printing.specs.declared.number.Amount.{Amount}

-- the amount of a signed number
abbrev pub amount_of : ℤ → Amount
amount_of (pos n) = record { negative = false; size = n }
amount_of (negsuc n) = record { negative = true; size = suc n }

-- the digits of n, as few as hold it
abbrev pub Decimal : ℕ → List ℕ → Type 0
Decimal n ds = (k : ℕ) × IsDigitCount 10 1 n k × (ds ≡ last_digits 10 k n)

-- n blanks, of which the last gives way to a minus sign if there is one
abbrev pub add_sign : Bool → ℕ → Gathered → Gathered
add_sign true n g = add (45 ∷ []) (add (blank (n - 1)) g)
add_sign false n g = add (blank n) g

-- an amount with blanks before it
abbrev pub Signed : Amount → ℕ → Gathered → Gathered → Type 0
Signed a width g h = (ds : List ℕ) × Decimal a.size ds × (h ≡ add ds (add_sign a.negative (width - length ds) g))

-- words, a number with blanks before it, and words
abbrev pub Phrase : List ℕ → ℕ → ℕ → List ℕ → Gathered → Gathered → Type 0
Phrase before n width behind g h = (k : Gathered) × Signed (record { negative = false; size = n }) width (add before g) k × (h ≡ add behind k)

-- an amount of hundredths: the whole number with its sign, a point, and the last two digits
abbrev pub Hundredths : Amount → ℕ → Gathered → Gathered → Type 0
Hundredths a width g h =
    (k : Gathered) × Signed (record { negative = a.negative; size = a.size / 100 }) (width - 3) g k
    × (h ≡ add (last_digits 10 2 a.size) (add (46 ∷ []) k))

-- a number in hexadecimal digits, as few as hold it, and at least as many as the width, of 1 to 16
abbrev pub Hex : ℕ → ℕ → Gathered → Gathered → Type 0
Hex n width g h = (k : ℕ) × IsDigitCount 16 (min (max width 1) 16) n k × (h ≡ add (last_digits 16 k n) g)
