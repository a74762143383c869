-- Closing calls: what is held at the end of a recording is handed out or given up, until nothing is held. Assumes nothing.
use Rattle.std.specs.Prelude.{◌≡◌, List, [], ◌∷◌, ℕ, ◌+◌}
use Rattle.bits.specs.Told.{Accepted}
use Rattle.bits.specs.Outcome.{outcome}
use Rattle.frames.specs.Scan.{Handed}
use Rattle.frames.specs.Framing.{Framing}
use Rattle.frames.specs.Call.{Scanner}
use Rattle.frames.specs.Close.{Done, Frame, close_of}
use Rattle.frames.specs.Offered.{handed_out}

module _ {W K : Type 0} (F : Framing W K) where
  -- Closing calls until Done, each with some output. In order: the held area and the scanner before, the frames found, the total skipped, the scanner after.
  pub data Closes : List ℕ → Scanner → List (Handed K) → ℕ → Scanner → Type 0 where
    done : {a b q : List ℕ} {x y : Scanner} {s : ℕ} (o : List ℕ) → close_of F a x o ≡ outcome (Accepted (Done s y)) (b, q) → Closes a x [] s y
    then : {a b q : List ℕ} {x y z : Scanner} {s l i u : ℕ} {k : K} {fs : List (Handed K)} (o : List ℕ)
        → close_of F a x o ≡ outcome (Accepted (Frame l s i k y)) (b, q) → Closes b y fs u z → Closes a x (handed_out i k l q ∷ fs) (s + u) z
