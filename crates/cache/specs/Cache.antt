-- The bias cache: a lent list of entries, each seven numbers of 16 bits: in use or not, provider, solution, satellite, signal, IOD, bias. A bias is told in 32 bits of two's complement, and kept in 16. Assumes nothing.
use Rattle.std.specs.Prelude.{List, [], ◌∷◌, Bool, true, false, cond, not, ◌&&◌, ℕ, suc, ◌+◌, ◌-◌, ◌%◌, ◌^◌, length, set, get_or, ltb, eqb}
use Rattle.std.proofs.Math.Option.{Option, none, some}
use Rattle.bits.specs.Told.{Told, Accepted, range, size, full, absent}
use Rattle.bits.specs.Outcome.{Outcome, outcome}
use Rattle.bits.specs.Signed.{fits_unsigned}

-- ---- keys and values

-- what an entry is stored under: provider, solution, satellite, signal
pub data Key : Type 0 where
  key : ℕ → ℕ → ℕ → ℕ → Key

abbrev pub provider_of : Key → ℕ
provider_of (key p s a g) = p

-- two keys are the same if all four numbers are
unfoldable pub same : Key → Key → Bool
same (key p s a g) (key q t b h) = eqb p q && (eqb s t && (eqb a b && eqb g h))

-- what is stored: IOD, and the bias in 32 bits of two's complement
pub data Value : Type 0 where
  value : ℕ → ℕ → Value

-- each number lies within its message field: provider 16 bits, solution 4, satellite 6, signal 5
unfoldable pub fits_key : Key → Bool
fits_key (key p s a g) = fits_unsigned 16 p && (fits_unsigned 4 s && (fits_unsigned 6 a && fits_unsigned 5 g))

-- IOD 4 bits, bias 14 bits of two's complement: from -8,192 to 8,191
unfoldable pub fits_value : Value → Bool
fits_value (value i b) = fits_unsigned 4 i && cond (ltb b (2 ^ 13)) true (cond (ltb b (2 ^ 32 - 2 ^ 13)) false (ltb b (2 ^ 32)))

-- ---- entries

-- an entry is free if its first number is 0, whatever the others are
abbrev pub free : List ℕ → Bool
free e = eqb (get_or e 0 0) 0

abbrev pub key_in : List ℕ → Key
key_in e = key (get_or e 1 0) (get_or e 2 0) (get_or e 3 0) (get_or e 4 0)

-- 16 bits of two's complement in 32
unfoldable pub widened : ℕ → ℕ
widened x = cond (ltb x (2 ^ 15)) x (x + (2 ^ 32 - 2 ^ 16))

abbrev pub value_in : List ℕ → Value
value_in e = value (get_or e 5 0) (widened (get_or e 6 0))

-- in use, with the whole key
unfoldable pub has_key : Key → List ℕ → Bool
has_key k e = cond (free e) false (same (key_in e) k)

-- an entry in use
abbrev pub entry_of : Key → Value → List ℕ
entry_of (key p s a g) (value i b) = 1 ∷ p ∷ s ∷ a ∷ g ∷ i ∷ b % 2 ^ 16 ∷ []

-- a freed entry
abbrev pub blank : List ℕ
blank = 0 ∷ 0 ∷ 0 ∷ 0 ∷ 0 ∷ 0 ∷ 0 ∷ []

-- the first place of a list that a test tells, or its length
unfoldable pub first : {X : Type 0} → (X → Bool) → List X → ℕ
first t [] = 0
first t (x ∷ l) = cond (t x) 0 (suc (first t l))

-- the value under a key: that of the first place that has it
unfoldable pub find : Key → List (List ℕ) → Option Value
find k [] = none
find k (e ∷ l) = cond (has_key k e) (some (value_in e)) (find k l)

-- ---- calls

pub data Call : Type 0 where
  Store : Key → Value → Call
  Remove : Key → Call
  Lookup : Key → Call

-- the provider whose call it is
abbrev pub caller : Call → ℕ
caller (Store k v) = provider_of k
caller (Remove k) = provider_of k
caller (Lookup k) = provider_of k

abbrev pub fits : Call → Bool
fits (Store k v) = fits_key k && fits_value v
fits (Remove k) = fits_key k
fits (Lookup k) = fits_key k

-- what a call answers: a lookup its value, a store and a removal nothing; no answer names a place
abbrev pub Answer : Type 0
Answer = Told (Option Value)

-- at the place i of the first entry with the key, else at the first free place j, else Full
unfoldable pub store_at : {X : Type 0} → ℕ → ℕ → X → List X → Outcome (Option Value) (List X)
store_at i j x l =
    cond (ltb i (length l)) (outcome (Accepted none) (set l i x))
    (cond (ltb j (length l)) (outcome (Accepted none) (set l j x))
    (outcome full l))

-- at the place i of the first entry with the key, else Absent
unfoldable pub remove_at : {X : Type 0} → ℕ → X → List X → Outcome (Option Value) (List X)
remove_at i x l = cond (ltb i (length l)) (outcome (Accepted none) (set l i x)) (outcome absent l)

-- the value that was found, else Absent
abbrev pub tell : Option Value → Answer
tell none = absent
tell (some v) = Accepted (some v)

unfoldable pub act : Call → List (List ℕ) → Outcome (Option Value) (List (List ℕ))
act (Store k v) l = store_at (first (has_key k) l) (first free l) (entry_of k v) l
act (Remove k) l = remove_at (first (has_key k) l) blank l
act (Lookup k) l = outcome (tell (find k l)) l

-- what every call refuses first: over 512 entries, then a number outside its field
abbrev pub admitted : ℕ → Bool → Answer
admitted n fits = cond (ltb 512 n) size (cond (not fits) (range 0) (Accepted none))

-- a call on a list of at most 512 entries, else Size; then Range with 0 for a number outside its field; then what it asks for
unfoldable pub step : Call → List (List ℕ) → Outcome (Option Value) (List (List ℕ))
step c l = cond (ltb 512 (length l)) (outcome size l) (cond (not (fits c)) (outcome (range 0) l) (act c l))
