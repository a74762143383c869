-- How a listing goes on from a place. No promise to a caller rests on this file. Assumes nothing.
use Rattle.std.specs.Prelude.{Bool, true, false, List, [], ◌∷◌, ℕ, zero, suc, ◌+◌, ◌≤◌, length, set}
use Rattle.frames.specs.Scan.{Item, Skipped, Framed}
use Rattle.frames.specs.declared.list.Listing.{Listing}

-- a listing by its numbers
abbrev pub listed : ℕ → ℕ → ℕ → Bool → Listing
listed k i m f = record { count = k; stop = i; framed = m; full = f }

-- A listing that has n free places, k frames listed with m bytes in them, and items before it of which the first stands at place i: what it comes to, and the two lists.
abbrev pub list_on : {W K : Type 0} → (n k i m : ℕ) → List (Item W K) → List ℕ → List ℕ → Listing × List ℕ × List ℕ
list_on zero k i m is starts lengths = (listed k i m true, starts, lengths)
list_on (suc n) k i m [] starts lengths = (listed k i m false, starts, lengths)
list_on (suc n) k i m (Skipped w x ∷ is) starts lengths = list_on (suc n) k (i + 1) m is starts lengths
list_on (suc n) k i m (Framed x f ∷ is) starts lengths =
    list_on n (k + 1) (i + length f) (m + length f) is (set starts k i) (set lengths k (length f))

-- the sizes of a listing over h bytes held and p of a piece, in lists of at least so many places
pub record Sizes (h p room : ℕ) (st ln : List ℕ) : Type 0 where
  pub held : h ≤ 1029
  pub piece : p ≤ 65536
  pub starts : room ≤ length st
  pub lengths : room ≤ length ln

-- a listing so far, of n bytes for so many places
pub record Within (n room : ℕ) (r : Listing) : Type 0 where
  pub inside : r.stop ≤ n
  pub counted : r.framed ≤ r.stop
  pub each : r.count ≤ r.framed
  pub most : r.count ≤ room
