-- Why a byte of an RTCM recording is given up, and the list of all that are. Assumes nothing.
use Rattle.std.specs.Prelude.{◌≡◌, cond, List, [], ◌∷◌, ℕ, ◌+◌, length, drop, leb, eqb, Result}
use Rattle.bits.specs.Told.{Told, Accepted, size}
use Rattle.bits.specs.Refusals.{told}
use Rattle.bits.specs.declared.refusal.Refusal.{Refusal}
use Rattle.frames.specs.Scan.{Decision, Skip, Take, Wait, Item, Skipped, Framed}
use Rattle.frames.specs.Framing.{decide}
use Rattle.frames.specs.Rtcm.{Why, NotD3, BadCheck, OfUbx, Kind, rtcm}
use Rattle.frames.specs.Close.{Gave, Judged, Unfinished, closing}
use Rattle.closing.specs.declared.reason.Ruled as code
use Rattle.closing.specs.declared.reason.Ruled.TheVariants as R
use Rattle.closing.specs.declared.reason.Skip as skips
use Rattle.closing.specs.declared.reason.Skip.TheVariants as S

-- What closing makes of a byte: it is given up for a reason; or a frame of so many bytes starts there.
pub data Ruled : Type 0 where
  GivenUp : Gave Why → Ruled
  Starts : (length : ℕ) → Ruled

-- a decision at the end, where nothing waits
abbrev pub ruled : Decision (Gave Why) Kind → Ruled
ruled (Skip w) = GivenUp w
ruled (Take k n) = Starts n
ruled Wait = GivenUp Unfinished

-- The byte at place q of bytes that run to the end of a recording: Size at or past the end; else what closing decides of the bytes from there on.
unfoldable pub ruled_at : List ℕ → ℕ → Told Ruled
ruled_at s q = cond (leb (length s) q) size (Accepted (ruled (closing (decide rtcm) (drop q s))))

-- what the answer of the code tells
abbrev pub known_ruled : code.Ruled → Ruled
known_ruled R.NotD3 = GivenUp (Judged NotD3)
known_ruled (R.BadCheck sent computed) = GivenUp (Judged (BadCheck sent computed))
known_ruled R.Unfinished = GivenUp Unfinished
known_ruled (R.Frame n) = Starts n

abbrev pub told_ruled : Result code.Ruled Refusal → Told Ruled
told_ruled r = told known_ruled r

-- ---- in feeding

-- Why a byte is skipped while feeding: it starts no frame of the mode; it is a D3 whose checksum is wrong; it is a B5 that starts no good UBX frame.
pub data Sort : Type 0 where
  NoD3 : Sort
  Wrong : Sort
  WrongUbx : Sort

-- the reason of a scan in any mode
abbrev pub sort_of : Why → Sort
sort_of NotD3 = NoD3
sort_of (BadCheck sent computed) = Wrong
sort_of (OfUbx w) = WrongUbx

-- a byte that was skipped in a mode tells by itself
abbrev pub by_byte : ℕ → ℕ → Sort
by_byte mode x = cond (eqb x 0xD3) Wrong (cond (eqb mode 0) NoD3 (cond (eqb x 0xB5) WrongUbx NoD3))

abbrev pub told_skip : skips.Skip → Sort
told_skip S.NotD3 = NoD3
told_skip S.BadCheck = Wrong

-- ---- the list

-- a byte that was given up: its stream place, and why
pub record Given (W : Type 0) : Type 0 where
  pub place : ℕ
  pub why : Gave W

-- what was given up among items of which the first stands at place n
abbrev pub listed : {W K : Type 0} → ℕ → List (Item (Gave W) K) → List (Given W)
listed n [] = []
listed n (Skipped w x ∷ is) = record { place = n; why = w } ∷ listed (n + 1) is
listed n (Framed k f ∷ is) = listed (n + length f) is

-- the call tells of each byte on the list why it is there
abbrev pub Reasoned : List ℕ → List (Given Why) → Type 0
Reasoned s [] = Unit {0}
Reasoned s (g ∷ gs) = (ruled_at s g.place ≡ Accepted (GivenUp g.why)) × Reasoned s gs

-- the items of feeding, as items of the whole recording
abbrev pub judged : {W K : Type 0} → List (Item W K) → List (Item (Gave W) K)
judged [] = []
judged (Skipped w x ∷ is) = Skipped (Judged w) x ∷ judged is
judged (Framed k f ∷ is) = Framed k f ∷ judged is
