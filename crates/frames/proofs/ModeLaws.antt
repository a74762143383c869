-- Every mode has a lawful framing, so joining, the demand and the sum hold in every mode; mode 0 is RTCM as before. Assumes nothing.
use mathlib.Core.Path.{◌≡◌, refl}
use mathlib.Core.Bool.{Bool, true, false, cond}
use mathlib.Core.List.{List, ◌++◌, flatten}
use Prim.Native.Nat.{ℕ, ◌+◌, ◌<◌}
use lib.ListN.{length, take}
use lib.Dec.{eqb}
use Rattle.frames.specs.Scan.{Wait, Handed, after, scan, framed}
use Rattle.frames.specs.Framing.{Lawful, decide}
use Rattle.frames.specs.Rtcm.{Kind, rtcm}
use Rattle.frames.specs.Call.{Scanner, fresh}
use Rattle.frames.specs.Offered.{Scans, Offers, Calls}
use Rattle.frames.proofs.FramingLaws as framing
use Rattle.frames.proofs.JoinLaws as joining
use Rattle.frames.proofs.Demand as demands
use Rattle.frames.proofs.TakenLaws as takens
use Rattle.frames.proofs.RtcmLaws.{rtcm_lawful}
use Rattle.frames.specs.Ubx.{ubx}
use Rattle.frames.specs.Modes.{both, framing_of}
use Rattle.frames.proofs.UbxLaws.{ubx_lawful}
use Rattle.frames.proofs.EitherLaws.{either_lawful}

pub both_lawful : Lawful both
both_lawful = either_lawful ubx rtcm ubx_lawful rtcm_lawful 0xB5

lawful_if : (b : Bool) → Lawful (cond b rtcm both)
lawful_if true = rtcm_lawful
lawful_if false = both_lawful

-- EVERY MODE is lawful.
pub lawful : (mode : ℕ) → Lawful (framing_of mode)
lawful mode = lawful_if (eqb mode 0)

-- a scanner opened for RTCM only behaves as before
pub mode_zero : framing_of 0 ≡ rtcm
mode_zero = refl

module _ (mode : ℕ) where
  -- THE LAW OF JOINING in every mode
  pub join : (a b : List ℕ)
      → scan (decide (framing_of mode)) (a ++ b) ≡ after (scan (decide (framing_of mode)) a).items (scan (decide (framing_of mode)) ((scan (decide (framing_of mode)) a).held ++ b))
  join = joining.join (decide (framing_of mode)) (framing.decides (framing_of mode) (lawful mode))

  -- DEMAND 3 in every mode
  pub demand : {a b : List ℕ} {s : ℕ} {y : Scanner} {ps : List (List ℕ)} {fs : List (Handed Kind)} → Offers (framing_of mode) a (fresh mode) ps fs s b y
      → Scans (framing_of mode) 0 (flatten ps) fs s (take y.count b) × (length (take y.count b) ≡ y.count) × (y.taken ≡ length (flatten ps)) × (y.mode ≡ mode)
  demand = demands.demand (framing_of mode) (lawful mode)

  -- THE SUM in every mode
  pub sum : {s a : List ℕ} {fs : List (Handed Kind)} {n : ℕ} {x : Scanner} → Calls (framing_of mode) s fs n a x → length s ≡ framed fs + n + x.count
  sum = takens.sum (framing_of mode) (lawful mode)

  -- what is held is fewer than 1,029 bytes
  pub waits_short : (s : List ℕ) → ◌≡◌ (decide (framing_of mode) s) Wait → length s < 1029
  waits_short = framing.waits_short (framing_of mode) (lawful mode)
