-- Looking for a row of a table, the systems and editions that have no table, and the editions that there are. Assumes nothing.
use mathlib.Core.Path.{◌≡◌, refl}
use mathlib.Core.Bool.{Bool, true, false, cond, ◌&&◌}
use mathlib.Core.List.{List, [], ◌∷◌}
use Prim.Native.Nat.{ℕ, zero, suc, ◌≤◌}
use native.Mathlib.Omega.{arith}
use lib.ListN.{get_or-eq_default}
use lib.Dec.{eqb}
use Rattle.std.specs.Prelude.{Some, option_map}
use Rattle.std.specs.List.{find}
use Rattle.bits.specs.Told.{Told, Accepted, Refused, kind, and_then}
use Rattle.messages.specs.Signals.{Signal, sig, Found, At, signal_of, number_of, tables, table_of}
use Rattle.messages.specs.Signals1059.{is_edition, signals1059, named_signal1059, named_number1059}
use Rattle.messages.specs.StepsTable.{entries, signal_at, has_number, has_signal, signal_in, number_in}
use Rattle.messages.specs.StepsEdition.{numbered}
use Rattle.messages.specs.Answers.{found_signal, found_number}
use Rattle.messages.specs.declared.signals.Row.{Row}

-- ---- row by row

-- the first row with a number tells its signal
pub signal_by_row : (rows : List Row) (n : ℕ) → found_signal (signal_in rows n) ≡ signal_of (entries rows) n
unfolding signal_of
signal_by_row [] n = refl
signal_by_row (r ∷ rows) n = go (eqb r.0 n) (signal_by_row rows n)
  where
    go : (q : Bool) → found_signal (signal_in rows n) ≡ signal_of (entries rows) n
        → found_signal (option_map (λ (x : Row). signal_at x) (cond q (Some r) (find (has_number n) rows))) ≡ cond q (At (sig r.1 r.2)) (signal_of (entries rows) n)
    go true e = refl
    go false e = e

-- the first row with a signal tells its number
pub number_by_row : (rows : List Row) (b l : ℕ) → found_number (number_in rows b l) ≡ number_of (entries rows) (sig b l)
unfolding number_of
number_by_row [] b l = refl
number_by_row (r ∷ rows) b l = go (eqb r.1 b && eqb r.2 l) (number_by_row rows b l)
  where
    go : (q : Bool) → found_number (number_in rows b l) ≡ number_of (entries rows) (sig b l)
        → found_number (option_map (λ (x : Row). x.0) (cond q (Some r) (find (has_signal b l) rows))) ≡ cond q (At r.0) (number_of (entries rows) (sig b l))
    go true e = refl
    go false e = e

-- ---- systems and editions that have no table

from_four : (s : ℕ) → (s ≡ 0 → ⊥) → (s ≡ 1 → ⊥) → (s ≡ 2 → ⊥) → (s ≡ 3 → ⊥) → 4 ≤ s
from_four s a b c d = omega arith

from_seven : (s : ℕ) → 4 ≤ s → (s ≡ 4 → ⊥) → (s ≡ 5 → ⊥) → (s ≡ 6 → ⊥) → 7 ≤ s
from_seven s h e f g = omega arith

-- any other system has an empty table
pub no_table : (s : ℕ) → (s ≡ 0 → ⊥) → (s ≡ 1 → ⊥) → (s ≡ 2 → ⊥) → (s ≡ 3 → ⊥) → (s ≡ 4 → ⊥) → (s ≡ 5 → ⊥) → (s ≡ 6 → ⊥) → table_of s ≡ []
unfolding table_of
no_table s a b c d e f g = get_or-eq_default tables [] (from_seven s (from_four s a b c d) e f g)

-- any other edition has an empty table
pub no_edition : (edition : ℕ) → (edition ≡ 1 → ⊥) → (edition ≡ 2 → ⊥) → signals1059 edition ≡ []
unfolding signals1059
no_edition zero g h = refl
no_edition (suc zero) g h = absurd (g refl)
no_edition (suc (suc zero)) g h = absurd (h refl)
no_edition (suc (suc (suc e))) g h = refl

-- ---- by edition

-- what is asked of the table of an edition, if it is there
abbrev pub signal_named : ℕ → ℕ → Told (Found Signal)
signal_named n e = Accepted (signal_of (signals1059 e) n)

abbrev pub number_named : ℕ → ℕ → ℕ → Told (Found ℕ)
number_named b l e = Accepted (number_of (signals1059 e) (sig b l))

module _ (e : ℕ) where
  pub signal_by_edition : (n : ℕ) → and_then (numbered e) (signal_named n) ≡ named_signal1059 e n
  unfolding named_signal1059
  signal_by_edition n = go (is_edition e)
    where
      go : (q : Bool) → and_then (cond q (Accepted e) kind) (signal_named n) ≡ cond q (signal_named n e) kind
      go true = refl
      go false = refl

  pub number_by_edition : (b l : ℕ) → and_then (numbered e) (number_named b l) ≡ named_number1059 e (sig b l)
  unfolding named_number1059
  number_by_edition b l = go (is_edition e)
    where
      go : (q : Bool) → and_then (cond q (Accepted e) kind) (number_named b l) ≡ cond q (number_named b l e) kind
      go true = refl
      go false = refl

  -- there is no such edition where it is refused, and with Kind
  pub edition_refused : {m : ℕ} {carried : List ℕ} → ◌≡◌ {A = Told ℕ} (Refused m carried) (numbered e) → (is_edition e ≡ false) × ◌≡◌ {A = Told ℕ} (Refused m carried) kind
  edition_refused {m} {carried} h = go (is_edition e) refl h
    where
      go : (q : Bool) → is_edition e ≡ q → ◌≡◌ {A = Told ℕ} (Refused m carried) (cond q (Accepted e) kind) → (is_edition e ≡ false) × ◌≡◌ {A = Told ℕ} (Refused m carried) kind
      go true f h = let z : ◌≡◌ {A = ℕ} 0 1 = cc in absurd (omega arith)
      go false f h = (f, h)

  -- and where it is accepted it is the one with this number
  pub edition_known : {n : ℕ} → Accepted n ≡ numbered e → (is_edition e ≡ true) × (n ≡ e)
  edition_known {n} h = go (is_edition e) refl h
    where
      go : (q : Bool) → is_edition e ≡ q → Accepted n ≡ cond q (Accepted e) kind → (is_edition e ≡ true) × (n ≡ e)
      go true f h = (f, cc)
      go false f h = let z : ◌≡◌ {A = ℕ} 0 1 = cc in absurd (omega arith)
