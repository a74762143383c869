-- The account of a recording: every byte that was read is somewhere. Sums go round at 2^64. Assumes nothing.
use Rattle.std.specs.Prelude.{◌≡◌, ℕ, ◌+◌, ◌-◌, ◌%◌, ◌^◌, ◌≤◌, Option, Some, None, Result, Ok, Err}
use Rattle.reading.specs.declared.account.Account.{Account}
use Rattle.reading.specs.declared.account.Found.{Found}
use Rattle.reading.specs.declared.account.Mode.{Mode}
use Rattle.reading.specs.declared.account.Mode.TheVariants.{Rtcm, RtcmAndUbx}
use Rattle.reading.specs.declared.program.Failure.{Failure}
use Rattle.reading.specs.declared.recording.Step.{Step}
use Rattle.reading.specs.declared.recording.Step.TheVariants.{Frame, Piece, End}

-- the number of a mode, as framings are numbered
abbrev pub mode_number : Mode → ℕ
mode_number Rtcm = 0
mode_number RtcmAndUbx = 1

-- The bytes read are those in frames, the skipped and the held ones, and those of the piece that are not taken yet.
pub record Right (a : Account) : Type 0 where
  pub sum : a.bytes ≡ (a.framed + a.skipped + a.held + (a.to - a.from)) % 2 ^ 64
  pub order : a.from ≤ a.to
  pub piece : a.to ≤ 65536
  pub few : a.held ≤ 1029

-- Nothing of the piece is left: the bytes read are those in frames, the skipped and the held ones.
pub record AllTaken (a : Account) : Type 0 where
  pub sum : a.bytes ≡ (a.framed + a.skipped + a.held) % 2 ^ 64
  pub none : a.from ≡ a.to
  pub piece : a.to ≤ 65536
  pub few : a.held ≤ 1029

-- A frame begins behind the earlier frames and the skipped bytes, so it ends behind itself and these.
abbrev pub RightFrame : Found → Account → Type 0
RightFrame f a = ((f.place + f.length) % 2 ^ 64 ≡ (a.framed + a.skipped) % 2 ^ 64) × Right a

-- what was made of a piece, with the account from then on
abbrev pub RightTaken : Result (Option Found) Failure → Account → Type 0
RightTaken (Ok (Some f)) a = RightFrame f a
RightTaken (Ok None) a = AllTaken a
RightTaken (Err e) a = Right a

-- what was made of the end of a recording: with the last frame handed out, nothing is held
abbrev pub RightClosed : Result (Option Found) Failure → Account → Type 0
RightClosed (Ok (Some f)) a = RightFrame f a
RightClosed (Ok None) a = Right a × (a.held ≡ 0)
RightClosed (Err e) a = Right a

-- what reading on came to: so many bytes of a new piece, of which none is taken yet, or the end
abbrev pub RightRead : Result (Option ℕ) Failure → Account → Type 0
RightRead (Ok (Some n)) a = Right a × (a.from ≡ 0) × (a.to ≡ n)
RightRead (Ok None) a = AllTaken a
RightRead (Err e) a = Right a

-- the same of a step
abbrev pub RightStep : Result Step Failure → Account → Type 0
RightStep (Ok (Frame f)) a = RightFrame f a
RightStep (Ok Piece) a = Right a
RightStep (Ok End) a = AllTaken a
RightStep (Err e) a = Right a
