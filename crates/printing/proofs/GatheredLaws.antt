-- Where added text goes. Assumes nothing.
use mathlib.Core.Path.{◌≡◌}
use mathlib.Core.List.{List}
use Prim.Native.Nat.{ℕ, ◌+◌, ◌≤◌, ◌<◌}
use native.Mathlib.Omega.{arith}
use lib.ListN.{length}
use borrow.Author.Tests.{le-leb, lt-leb}
use Rattle.bits.specs.Onto.{onto, over}
use Rattle.printing.specs.Gathered.{gathered, add}

module _ (words a : List ℕ) (n : ℕ) where
  pub add_behind : n + length words ≤ 65536 → add words (gathered a n) ≡ gathered (over n words a) (n + length words)
  unfolding add
  add_behind h = rw (le-leb (n + length words) 65536 h)

  pub add_anew : 65536 < n + length words → length words ≤ 65536 → add words (gathered a n) ≡ gathered (onto words a) (length words)
  unfolding add
  add_anew h l = rw (lt-leb (n + length words) 65536 h, le-leb (length words) 65536 l)

  pub add_alone : 65536 < length words → add words (gathered a n) ≡ gathered a 0
  unfolding add
  add_alone l = rw (lt-leb (n + length words) 65536 (omega arith), lt-leb (length words) 65536 l)
