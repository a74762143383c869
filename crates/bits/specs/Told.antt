-- What a call answers, and the table of refusals. Assumes nothing.
use Rattle.std.specs.Prelude.{◌≡◌, List, [], ◌∷◌, ℕ}

-- Accepted, with a value; or refused, with a number of the table below and the numbers that it carries.
pub data Told (A : Type 0) : Type 0 where
  Accepted : A → Told A
  Refused : ℕ → List ℕ → Told A

-- What was accepted is handed on; a refusal stays as it is.
abbrev pub and_then : {A B : Type 0} → Told A → (A → Told B) → Told B
and_then (Accepted a) f = f a
and_then (Refused n carried) f = Refused n carried

-- ---- the table of refusals

-- 1 Short: a field does not fit in the data. Carries the bit place where the field starts, and how many of its bits are missing.
abbrev pub short : {A : Type 0} → ℕ → ℕ → Told A
short place missing = Refused 1 (place ∷ missing ∷ [])

-- 2 Width: width 0 or above 64.
abbrev pub width : {A : Type 0} → Told A
width = Refused 2 []

-- 3 Range: a number does not fit its width. Carries the record's index, or 0.
abbrev pub range : {A : Type 0} → ℕ → Told A
range index = Refused 3 (index ∷ [])

-- 4 Signal: writing a signal that is not in the table. Carries the record's index.
abbrev pub signal : {A : Type 0} → ℕ → Told A
signal index = Refused 4 (index ∷ [])

-- 5 Satellite: above 63. Carries the record's index.
abbrev pub satellite : {A : Type 0} → ℕ → Told A
satellite index = Refused 5 (index ∷ [])

-- 6 TooMany: 64 different satellites, or over 31 biases of one. Carries the lowest satellite over 31, else 64.
abbrev pub too_many : {A : Type 0} → ℕ → Told A
too_many which = Refused 6 (which ∷ [])

-- 7 Duplicate: a 1230 signal twice. Carries the index of the first repeat.
abbrev pub duplicate : {A : Type 0} → ℕ → Told A
duplicate index = Refused 7 (index ∷ [])

-- 8 Room: the lent output is too small. Carries what would be needed: a field's width, the bits of a whole block written, the records of a block read, the bytes of a frame, the scanner's 1,029 bytes.
abbrev pub room : {A : Type 0} → ℕ → Told A
room needed = Refused 8 (needed ∷ [])

-- 9 Size: an input above its limit, or lists of unequal length.
abbrev pub size : {A : Type 0} → Told A
size = Refused 9 []

-- 10 NoPreamble: the first byte is not D3.
abbrev pub no_preamble : {A : Type 0} → Told A
no_preamble = Refused 10 []

-- 11 State: a scanner's held count above 1,029.
abbrev pub state : {A : Type 0} → Told A
state = Refused 11 []

-- 12 Incomplete: a frame's bytes end too early.
abbrev pub incomplete : {A : Type 0} → Told A
incomplete = Refused 12 []

-- 13 Kind: another message number, or another edition, than the call takes.
abbrev pub kind : {A : Type 0} → Told A
kind = Refused 13 []

-- 14 BadCheck: the checksum differs. Carries the one that was sent and the one computed.
abbrev pub bad_check : {A : Type 0} → ℕ → ℕ → Told A
bad_check sent computed = Refused 14 (sent ∷ computed ∷ [])

-- 15 Full: no entry has the key, and none is free.
abbrev pub full : {A : Type 0} → Told A
full = Refused 15 []

-- 16 Absent: no entry has the key.
abbrev pub absent : {A : Type 0} → Told A
absent = Refused 16 []

-- ---- statements by `Told`

-- A kind of answer stands for what it tells one to one: answers that tell the same are the same.
pub record OneToOne {E A : Type 0} (told : E → Told A) : Type 0 where
  pub same : {x y : E} → told x ≡ told y → x ≡ y
