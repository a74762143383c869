-- Closing: what is held at the end of a recording is scanned once more, and nothing waits. Assumes nothing.
use Rattle.std.specs.Prelude.{List, [], ℕ}
use Rattle.bits.specs.Told.{Told, Accepted, Refused}
use Rattle.bits.specs.Outcome.{Outcome, outcome}
use Rattle.frames.specs.Scan.{Decision, Skip, Take, Wait, Item, scan}
use Rattle.frames.specs.Framing.{Framing, decide}
use Rattle.frames.specs.Call as call
use Rattle.frames.specs.Call.{Scanner, afresh, FedAnswer, feed_of}

-- why a byte is given up: it is judged, or the candidate that it starts is unfinished
pub data Gave (W : Type 0) : Type 0 where
  Judged : W → Gave W
  Unfinished : Gave W

-- a decision at the end: waiting becomes skipping
abbrev pub final : {W K : Type 0} → Decision W K → Decision (Gave W) K
final (Skip w) = Skip (Judged w)
final (Take k n) = Take k n
final Wait = Skip Unfinished

-- a decider that never waits
abbrev pub closing : {W K : Type 0} → (List ℕ → Decision W K) → List ℕ → Decision (Gave W) K
closing d s = final (d s)

-- what closing gives of the bytes held
abbrev pub closed : {W K : Type 0} → Framing W K → List ℕ → List (Item (Gave W) K)
closed F h = (scan (closing (decide F)) h).items

-- the framing of the end: one byte is enough, and nothing waits
abbrev pub ending : {W K : Type 0} → Framing W K → Framing (Gave W) K
ending F = record { need = λ s. 1; verdict = λ s. final (decide F s) }

-- An accepted closing call. Done: the bytes skipped in this call, and the scanner, which is fresh. Frame: the frame's length, the bytes skipped before it, its stream place and its kind, and what the scanner then knows.
pub data ClosedAnswer (K : Type 0) : Type 0 where
  Done : (skipped : ℕ) (left : Scanner) → ClosedAnswer K
  Frame : (length skipped place : ℕ) (kind : K) (left : Scanner) → ClosedAnswer K

-- a call that is fed no piece, as a closing call: More is Done, and makes the scanner fresh
abbrev pub closed_by : {K : Type 0} → Told (FedAnswer K) → Told (ClosedAnswer K)
closed_by (Accepted (call.More t s x)) = Accepted (Done s (afresh x))
closed_by (Accepted (call.Frame l t s i k x)) = Accepted (Frame l s i k x)
closed_by (Refused n carried) = Refused n carried

-- A closing call: Size of the held area, State and Room as in feeding; then the bytes held are scanned so that nothing waits.
unfoldable pub close_of : {W K : Type 0} → Framing W K → List ℕ → Scanner → List ℕ → Outcome (ClosedAnswer K) (List ℕ × List ℕ)
close_of F area x out = outcome (closed_by (feed_of (ending F) area x [] out).answer) (feed_of (ending F) area x [] out).areas
