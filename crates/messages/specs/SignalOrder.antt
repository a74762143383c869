-- The order of signals. Assumes nothing.
use Rattle.std.specs.Prelude.{cond, List, ℕ, ltb, eqb, ℤ, pos, negsuc}
use Rattle.messages.specs.Signals.{Signal, sig, Entry, Found, At, None, number_of}

-- a signal that stands before another
abbrev pub less : ℤ
less = negsuc 0

-- one that stands with it
abbrev pub equal : ℤ
equal = pos 0

-- one that stands behind it
abbrev pub greater : ℤ
greater = pos 1

-- two numbers: the lower one first
unfoldable pub compared : ℕ → ℕ → ℤ
compared m n = cond (ltb m n) less (cond (eqb m n) equal greater)

-- two signals by band, then letter
unfoldable pub by_band : Signal → Signal → ℤ
by_band (sig b l) (sig c m) = cond (eqb b c) (compared l m) (compared b c)

-- assigned ones by number, before unassigned ones, which go as `others` says
unfoldable pub ranked : Found ℕ → Found ℕ → ℤ → ℤ
ranked (At m) (At n) others = compared m n
ranked (At m) None others = less
ranked None (At n) others = greater
ranked None None others = others

-- two signals by a table: assigned ones by number, then unassigned ones by band, then letter
unfoldable pub order : List Entry → Signal → Signal → ℤ
order t a b = ranked (number_of t a) (number_of t b) (by_band a b)
