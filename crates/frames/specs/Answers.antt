-- What each answer of the code tells. Assumes nothing.
use Rattle.std.proofs.Math.Option as maybe
use Rattle.std.proofs.Math.Option.{none, some}
use Rattle.std.specs.Prelude.{ℕ, Option, Some, None, Result}
use Rattle.bits.specs.Told.{Told, Accepted}
use Rattle.bits.specs.Refusals.{told}
use Rattle.bits.specs.declared.refusal.Refusal.{Refusal}
use Rattle.frames.specs.Frame.{Whole}
use Rattle.frames.specs.Call as call
use Rattle.frames.specs.Call.{Scanner, FedAnswer}
use Rattle.frames.specs.Close as close
use Rattle.frames.specs.Close.{ClosedAnswer}
use Rattle.frames.specs.Rtcm.{Kind, Rtcm, Ubx}
use Rattle.frames.specs.Walk as walk
use Rattle.frames.specs.Walk.{Place}
use Rattle.frames.specs.declared.frame.Frame.{Frame}
use Rattle.frames.specs.declared.scan.Next.{Next}
use Rattle.frames.specs.declared.scan.Next.TheVariants as X
use Rattle.frames.specs.declared.scanner.Scanner as code
use Rattle.frames.specs.declared.scanner.Kind as kinds
use Rattle.frames.specs.declared.scanner.Kind.TheVariants as Q
use Rattle.frames.specs.declared.scanner.Fed.{Fed}
use Rattle.frames.specs.declared.scanner.Fed.TheVariants as D
use Rattle.frames.specs.declared.close.Closed.{Closed}
use Rattle.frames.specs.declared.close.Closed.TheVariants as E

-- the message number, or that there is none
abbrev pub told_number : Option ℕ → maybe.Option ℕ
told_number None = none
told_number (Some n) = some n

-- the frame check: a good frame, or NoPreamble, BadCheck with the checksums sent and computed, Incomplete
abbrev pub known_frame : Frame → Whole
known_frame f = record { length = f.length; carried = f.«data»; number = told_number f.number; sum = f.sum }

abbrev pub told_checked : Result Frame Refusal → Told Whole
told_checked r = told known_frame r

-- framing: the frame's length, or Size, Room with that length
abbrev pub told_framed : Result ℕ Refusal → Told ℕ
told_framed r = told (λ n. n) r

-- the scan from a place on: a frame's place and length, or the place from which on the bytes are held
abbrev pub told_next : Next → Told Place
told_next (X.Frame p l) = Accepted (walk.Frame p l)
told_next (X.Held p) = Accepted (walk.Held p)

-- what a scanner of the code knows
abbrev pub known : code.Scanner → Scanner
known x = record { count = x.count; taken = x.taken; mode = x.mode }

-- the kind of a frame
abbrev pub told_kind : kinds.Kind → Kind
told_kind Q.Rtcm = Rtcm
told_kind Q.Ubx = Ubx

-- whether a scanner and its held area are in order, or Size, State
abbrev pub told_order : Result (Unit {0}) Refusal → Told (Unit {0})
told_order r = told (λ u. u) r

-- a call of the scanner: More or a frame, or Size, State, Room with 1,029
abbrev pub known_fed : Fed → FedAnswer Kind
known_fed (D.More t s x) = call.More t s (known x)
known_fed (D.Frame l t s i k x) = call.Frame l t s i (told_kind k) (known x)

abbrev pub told_fed : Result Fed Refusal → Told (FedAnswer Kind)
told_fed r = told known_fed r

-- a closing call: Done or a frame, or Size, State, Room with 1,029
abbrev pub known_closed : Closed → ClosedAnswer Kind
known_closed (E.Done s x) = close.Done s (known x)
known_closed (E.Frame l s i k x) = close.Frame l s i (told_kind k) (known x)

abbrev pub told_closed : Result Closed Refusal → Told (ClosedAnswer Kind)
told_closed r = told known_closed r
