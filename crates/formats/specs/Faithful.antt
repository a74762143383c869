-- What every format keeps to. Assumes nothing.
use Rattle.std.specs.Prelude.{◌≡◌, true, ◌⊎◌, List, ℕ, ◌+◌, ◌*◌, ◌≤◌, length}
use Rattle.bits.specs.Told.{Told, Accepted, Refused}
use Rattle.bits.specs.Field.{Reading, reading}
use Rattle.bits.specs.Fields.{total, Holds, Fit}
use Rattle.formats.specs.Format.{Format}

-- a value that fits stands in s from bit p to q; and within the data, unless it has no bits
pub record Stands {A : Type 0} (F : Format A) (s : List ℕ) (p : ℕ) (a : A) (q : ℕ) : Type 0 where
  pub fitting : F.fits a ≡ true
  pub holds : Holds s p (F.fields a)
  pub ends : q ≡ p + total (F.fields a)
  pub within : 1 ≤ total (F.fields a) → q ≤ length s * 8

-- fields and reading tell the same
pub record Faithful {A : Type 0} (F : Format A) : Type 0 where
  -- the fields of a value that fits, where they stand in the data, read as that value, and the end is behind them
  pub back : (s : List ℕ) (p : ℕ) (a : A) → length s ≤ 1023 → F.fits a ≡ true → Holds s p (F.fields a) → p + total (F.fields a) ≤ length s * 8
      → F.reads s p ≡ Accepted (reading a (p + total (F.fields a)))
  -- what was read stands there
  pub there : (s : List ℕ) (p : ℕ) (r : Reading A) → F.reads s p ≡ Accepted r → Stands F s p r.value r.next
  -- each number of a value that fits is in its width, so that it can be written
  pub fit : (a : A) → F.fits a ≡ true → Fit (F.fields a)

-- if it is refused, then with Short
abbrev pub Cut : {A : Type 0} → Told A → Type 0
Cut (Accepted a) = Unit
Cut (Refused n carried) = n ≡ 1

-- if it is refused, then with Short or Kind
abbrev pub CutOrKind : {A : Type 0} → Told A → Type 0
CutOrKind (Accepted a) = Unit
CutOrKind (Refused n carried) = (n ≡ 1) ⊎ (n ≡ 13)

-- of data within the limit, nothing but Short is refused
pub record OnlyShort {A : Type 0} (F : Format A) : Type 0 where
  pub cut : (s : List ℕ) (p : ℕ) → length s ≤ 1023 → Cut (F.reads s p)
