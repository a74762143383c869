-- WHAT THE SCANNER OF RTCM PROMISES, one theorem a promise, of the calls as they are made. Assumes nothing.
use mathlib.Core.Path.{◌≡◌, ap}
use mathlib.Core.List.{List, ◌++◌, flatten, map}
use Prim.Native.Nat.{ℕ, ◌+◌, ◌-◌, ◌^◌, ◌≤◌, ◌<◌}
use native.Mathlib.Omega.{arith}
use lib.ListN.{length, take, drop}
use Rattle.bits.specs.Told.{Accepted}
use Rattle.bits.specs.Outcome.{outcome}
use Rattle.frames.specs.Scan.{Wait, Handed, after, scan, bytes_of, frames_of, framed, placed, skips_before}
use Rattle.frames.specs.Framing.{decide}
use Rattle.frames.specs.Call.{Scanner, fresh, More, feed_of}
use Rattle.frames.specs.Offered.{Scans, Pieces, Offered, Offers, Chain, Calls}
use Rattle.frames.specs.Rtcm.{Kind, rtcm, decide_at}
use Rattle.frames.specs.Walk.{Place, Walked, frames_at, cut}
use Rattle.frames.proofs.RtcmLaws.{rtcm_lawful, decides_at}
use Rattle.frames.proofs.FramingLaws.{decides, decided_in_time}
use Rattle.frames.proofs.JoinLaws.{join, every_byte}
use Rattle.frames.proofs.CallLaws.{Fits}
use Rattle.frames.proofs.AnswerLaws.{AnswersFirst, answers_first, is_more}
use Rattle.frames.proofs.Demand.{demand, any_cut, two_as_one, Feedable, offers}
use Rattle.frames.proofs.TakenLaws.{sum}
use Rattle.frames.proofs.PlaceLaws.{skipped_places}
use Rattle.frames.proofs.ProgressLaws.{to_come, chain_ends}
use Rattle.frames.proofs.WalkLaws.{walked}

-- ---- the whole-stream scan

-- The scan decides by the frame check: a byte other than D3 is skipped; at D3 the check hands out the frame, skips that one byte, or holds the rest.
pub rtcm_by_check : (s : List ℕ) → scan (decide rtcm) s ≡ scan decide_at s
rtcm_by_check s = ap (λ d. scan d s) (λ i t. decides_at t i)

-- The law of joining: the scan of a with b behind is the scan of a, and then that of what it holds with b behind.
pub rtcm_join : (a b : List ℕ) → scan (decide rtcm) (a ++ b) ≡ after (scan (decide rtcm) a).items (scan (decide rtcm) ((scan (decide rtcm) a).held ++ b))
rtcm_join = join (decide rtcm) (decides rtcm rtcm_lawful)

-- Every byte of a stream is in one frame, skipped or held, in order.
pub rtcm_every_byte : (s : List ℕ) → bytes_of (scan (decide rtcm) s).items ++ (scan (decide rtcm) s).held ≡ s
rtcm_every_byte = every_byte (decide rtcm) (decides rtcm rtcm_lawful).whole

-- A candidate at the front is decided once 1,028 bytes behind its first are there.
pub rtcm_decided_in_time : (s : List ℕ) → 1029 ≤ length s → decide rtcm s ≡ Wait → ⊥
rtcm_decided_in_time = decided_in_time rtcm rtcm_lawful

-- The next frame, call after call from place 0 on: the places and the bytes of the scan's frames, and the place from which on it holds.
pub rtcm_walked : {s : List ℕ} {fs : List Place} {m : ℕ} → Walked rtcm s 0 fs m
    → (frames_at (placed 0 (scan (decide rtcm) s).items) ≡ fs) × (frames_of (scan (decide rtcm) s).items ≡ map (cut s) fs) × ((scan (decide rtcm) s).held ≡ drop m s)
rtcm_walked {s} w = let x = walked rtcm s rtcm_lawful (omega arith) w in (x.places, x.frames, x.held)

-- ---- one call

-- A call answers More exactly if the scan of the held bytes and the piece hands out no frame, else its first frame.
pub rtcm_answers_first : (a : List ℕ) (x : Scanner) (p o : List ℕ) → Fits a x p o
    → AnswersFirst rtcm a x p o rtcm_lawful (frames_of (scan (decide rtcm) (take x.count a ++ p)).items) (feed_of rtcm a x p o)
rtcm_answers_first a x p o f = answers_first rtcm a x p o rtcm_lawful f

-- After More fewer than 1,029 bytes are held.
pub rtcm_held_after_more : (a : List ℕ) (x : Scanner) (p o : List ℕ) (t s : ℕ) (y : Scanner) (b q : List ℕ) → feed_of rtcm a x p o ≡ outcome (Accepted (More t s y)) (b, q) → y.count < 1029
rtcm_held_after_more a x p o t s y b q e = (is_more rtcm a x p o rtcm_lawful t s y b q e).within

-- ---- pieces, each offered until More

-- DEMAND 3. From a fresh scanner, pieces that are each offered until More hand out the frames of the scan of the pieces joined, each at its place in the joined stream, skip as many bytes, and hold the same, which the scanner counts.
pub rtcm_demand : {a b : List ℕ} {mode s : ℕ} {y : Scanner} {ps : List (List ℕ)} {fs : List (Handed Kind)} → Offers rtcm a (fresh mode) ps fs s b y
    → Scans rtcm 0 (flatten ps) fs s (take y.count b) × (length (take y.count b) ≡ y.count) × (y.taken ≡ length (flatten ps)) × (y.mode ≡ mode)
rtcm_demand = demand rtcm rtcm_lawful

-- Two cuts of one stream give the same frames and places, skipped total, scanner and held bytes.
pub rtcm_any_cut : {a b c e : List ℕ} {mode s u : ℕ} {y z : Scanner} {ps qs : List (List ℕ)} {fs gs : List (Handed Kind)}
    → Offers rtcm a (fresh mode) ps fs s b y → Offers rtcm c (fresh mode) qs gs u e z → flatten ps ≡ flatten qs
    → (fs ≡ gs) × (s ≡ u) × (y ≡ z) × (take y.count b ≡ take z.count e)
rtcm_any_cut = any_cut rtcm rtcm_lawful

-- From any one scanner and held bytes, feeding A and then B is feeding A ++ B.
pub rtcm_two_as_one : {a b c d e A B : List ℕ} {x y z w : Scanner} {s u v : ℕ} {fs gs hs : List (Handed Kind)}
    → Offered rtcm a x A fs s b y → Offered rtcm b y B gs u c z → Offered rtcm d x (A ++ B) hs v e w → take x.count d ≡ take x.count a
    → (hs ≡ fs ++ gs) × (v ≡ s + u) × (w ≡ z) × (take w.count e ≡ take z.count c)
rtcm_two_as_one = two_as_one rtcm rtcm_lawful

-- Any list of pieces can be offered, each until More, with any output of room enough, if the stream stays within 2^48 bytes.
pub rtcm_offers : (o : List ℕ) → 1029 ≤ length o → (ps : List (List ℕ)) → Pieces ps → (a : List ℕ) (x : Scanner) → Feedable rtcm rtcm_lawful a x → x.taken + length (flatten ps) ≤ 2 ^ 48
    → (fs : List (Handed Kind)) × (s : ℕ) × (b : List ℕ) × (y : Scanner) × Offers rtcm a x ps fs s b y
rtcm_offers = offers rtcm rtcm_lawful

-- And no run goes on for ever: calls one after the other that each hand out a frame, whatever output each is lent, are no more than the items of the scan.
pub rtcm_chain_ends : {a p : List ℕ} {x : Scanner} {n : ℕ} → Chain rtcm a x p n → n ≤ to_come rtcm a x p
rtcm_chain_ends = chain_ends rtcm rtcm_lawful

-- ---- any accepted calls from fresh

-- THE SUM. Bytes taken are the bytes in frames, plus skipped, plus held; skipped is the number of places before the held bytes that the scan of all that was taken skips.
pub rtcm_sum : {s a : List ℕ} {fs : List (Handed Kind)} {n : ℕ} {x : Scanner} → Calls rtcm s fs n a x
    → (length s ≡ framed fs + n + x.count) × (skips_before (length s - x.count) (placed 0 (scan (decide rtcm) s).items) ≡ n)
rtcm_sum c = (sum rtcm rtcm_lawful c, skipped_places rtcm rtcm_lawful c)
