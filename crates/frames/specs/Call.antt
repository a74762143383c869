-- What a call of the scanner answers, and what it leaves in the lent held area and output. Assumes nothing.
use Rattle.std.specs.Prelude.{cond, not, List, ℕ, ◌+◌, ◌-◌, ◌^◌, length, take, ltb, eqb}
use Rattle.bits.specs.Told.{Told, Accepted, size, state, room}
use Rattle.bits.specs.Outcome.{Outcome, outcome, refusing}
use Rattle.frames.specs.Framing.{Framing, decide}
use Rattle.frames.specs.Feed as fed
use Rattle.frames.specs.Feed.{Fed, feed}
use Rattle.bits.specs.Onto.{onto}

-- What a scanner knows beside its held area: how many bytes it holds, how many it took since it was fresh, and what it was opened for (0: RTCM only, 1: both kinds of frames).
pub record Scanner : Type 0 where
  pub count : ℕ
  pub taken : ℕ
  pub mode : ℕ

-- a fresh scanner; and one that was reset, which is fresh and opened for the same
abbrev pub fresh : ℕ → Scanner
fresh mode = record { count = 0; taken = 0; mode = mode }

abbrev pub afresh : Scanner → Scanner
afresh x = fresh x.mode

-- the stream place of the first byte held
abbrev pub held_from : Scanner → ℕ
held_from x = x.taken - x.count

-- once t bytes more were taken and m bytes are held
abbrev pub onwards : Scanner → ℕ → ℕ → Scanner
onwards x t m = record { count = m; taken = x.taken + t; mode = x.mode }

-- An accepted call. More: the bytes taken and skipped in this call, and what the scanner then knows. Frame: the frame's length, the bytes taken and skipped, the frame's stream place and its kind, and what the scanner then knows.
pub data FedAnswer (K : Type 0) : Type 0 where
  More : (taken skipped : ℕ) (left : Scanner) → FedAnswer K
  Frame : (length taken skipped place : ℕ) (kind : K) (left : Scanner) → FedAnswer K

-- an answer, with the held area and the output as they then are
abbrev pub FedOutcome : Type 0 → Type 0
FedOutcome K = Outcome (FedAnswer K) (List ℕ × List ℕ)

-- The bytes held go to the front of the held area, a frame to the front of the output; what lies behind stays. More writes no output. A frame stands behind the bytes skipped.
abbrev pub called : {W K : Type 0} → Fed W K → Scanner → List ℕ → List ℕ → FedOutcome K
called (fed.More t is g) x a o = outcome (Accepted (More t (length is) (onwards x t (length g)))) (onto g a, o)
called (fed.Frame t is k f g) x a o =
    outcome (Accepted (Frame (length f) t (length is) (held_from x + length is) k (onwards x t (length g)))) (onto g a, onto f o)

-- Whether a call can go on with this held area and scanner, by the first refusals of a call.
abbrev pub order_of : List ℕ → Scanner → Told (Unit {0})
order_of area x =
    cond (not (eqb (length area) 1029)) size
    (cond (ltb 1029 x.count) state
    (cond (ltb x.taken x.count) state
    (cond (ltb (2 ^ 48) x.taken) state
    (cond (ltb 1 x.mode) state
    (Accepted tt)))))

-- The held bytes of a call with this held area, scanner, piece and output; or its refusal, in their order. State: over 1,029 bytes held, more held than taken, over 2^48 taken, a mode that there is not.
abbrev pub held_of : List ℕ → Scanner → List ℕ → List ℕ → Told (List ℕ)
held_of area x piece out =
    cond (not (eqb (length area) 1029)) size
    (cond (ltb 1029 x.count) state
    (cond (ltb x.taken x.count) state
    (cond (ltb (2 ^ 48) x.taken) state
    (cond (ltb 1 x.mode) state
    (cond (ltb 65536 (length piece)) size
    (cond (ltb (2 ^ 48) (x.taken + length piece)) size
    (cond (ltb (length out) 1029) (room 1029)
    (Accepted (take x.count area)))))))))

-- A call: a refusal writes nothing; else what feeding the piece to the held bytes comes to.
unfoldable pub feed_of : {W K : Type 0} → Framing W K → List ℕ → Scanner → List ℕ → List ℕ → FedOutcome K
feed_of F area x piece out = refusing (area, out) (held_of area x piece out) (λ h. called (feed (decide F) h piece) x area out)
