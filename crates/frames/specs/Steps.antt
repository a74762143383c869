-- What private functions of the code compute. No promise to a caller rests on this file. Assumes nothing.
use Rattle.std.specs.Prelude.{◌≡◌, Bool, true, false, cond, ◌||◌, List, ◌++◌, ℕ, zero, suc, ◌+◌, ◌-◌, ◌*◌, ◌≤◌, ◌<◌, length, get_or, take, drop, eqb}
use Rattle.bits.specs.Told.{Accepted}
use Rattle.bits.specs.Outcome.{outcome}
use Rattle.bits.specs.Onto.{onto}
use Rattle.bits.specs.Crc.{crc}
use Rattle.frames.specs.Scan.{Decision, Skip, Take, Wait}
use Rattle.frames.specs.Framing.{Framing, decide}
use Rattle.frames.specs.Feed as fed
use Rattle.frames.specs.Call as call
use Rattle.frames.specs.Call.{Scanner, held_from, onwards, FedOutcome}
use Rattle.frames.specs.Rtcm.{Kind, Rtcm, Ubx}
use Rattle.frames.specs.Ubx as ubx
use Rattle.frames.specs.declared.mode.Mode.{Mode}
use Rattle.frames.specs.declared.mode.Mode.TheVariants as modes
use Rattle.frames.specs.declared.scan.Candidate.{Candidate}
use Rattle.frames.specs.declared.scan.Candidate.TheVariants.{Incomplete, NotValid, Good}
use Rattle.frames.specs.declared.scan.Searched.{Searched}
use Rattle.frames.specs.declared.scan.Searched.TheVariants.{More, Frame}

-- the number of a mode
abbrev pub number_of : Mode → ℕ
number_of modes.Rtcm = 0
number_of modes.Both = 1

-- the byte that starts a frame of RTCM; the bytes that start one of either kind; those of a mode
abbrev pub starts_rtcm : ℕ → Bool
starts_rtcm x = eqb x 0xD3

abbrev pub starts_either : ℕ → Bool
starts_either x = eqb x 0xB5 || eqb x 0xD3

abbrev pub starts_in : ℕ → ℕ → Bool
starts_in mode x = cond (eqb mode 0) (starts_rtcm x) (starts_either x)

-- j is the first place of s from place i on whose byte is a start, or the end
pub record Start (start : ℕ → Bool) (s : List ℕ) (i j : ℕ) : Type 0 where
  pub from : i ≤ j
  pub within : j ≤ length s
  pub none : (k : ℕ) → k < j → i ≤ k → start (get_or s k 0) ≡ false
  pub there : j < length s → start (get_or s j 0) ≡ true

-- whether x is among the bytes of s from place i up to place i + n
unfoldable pub among : ℕ → ℕ → List ℕ → ℕ → Bool
among x zero s i = eqb (get_or s i 0) x
among x (suc n) s i = among x n s i || eqb (get_or s (i + suc n) 0) x

-- a decision about a candidate, and the n bytes that it was made by
abbrev pub candidate_by : {W K : Type 0} → Decision W K → ℕ → Candidate
candidate_by (Skip w) n = NotValid n
candidate_by (Take k m) n = Good m
candidate_by Wait n = Incomplete

-- what is decided of the candidate at the front of s
unfoldable pub candidate : {W K : Type 0} → Framing W K → List ℕ → Candidate
candidate F s = candidate_by (decide F s) (F.need s)

-- the numbers of what a call gives: bytes skipped; or bytes skipped, the frame's length, and bytes taken
abbrev pub searched : {W K : Type 0} → fed.Fed W K → Searched
searched (fed.More t is h) = More (length is)
searched (fed.Frame t is k f h) = Frame (length is) (length f) t

-- i bytes skipped and t bytes taken before
abbrev pub onward : ℕ → ℕ → Searched → Searched
onward i t (More n) = More (i + n)
onward i t (Frame n l u) = Frame (i + n) l (t + u)

-- what is held of the bytes h with the piece p behind them, with i bytes skipped and t taken
abbrev pub held_at : List ℕ → List ℕ → ℕ → ℕ → List ℕ
held_at h p i t = drop i (h ++ take t p)

-- the call on h and p goes on from there
abbrev pub Reached : {W K : Type 0} → Framing W K → List ℕ → List ℕ → ℕ → ℕ → Type 0
Reached F h p i t = (i ≤ length h + t) × (t ≤ length p) × (searched (fed.feed (decide F) h p) ≡ onward i t (searched (fed.feed (decide F) (held_at h p i t) (drop t p))))

-- From place i, with the bytes up to place e taken, a search goes on to place j, with those up to place f taken: every byte between is skipped.
pub record Passes {W K : Type 0} (F : Framing W K) (h p : List ℕ) (i e j f : ℕ) : Type 0 where
  pub on : i ≤ j
  pub within : j ≤ length h + length p
  pub behind : length h ≤ f
  pub skips : (k : ℕ) → i ≤ k → k < j → (w : W) × (decide F (drop k (h ++ p)) ≡ Skip w)
  pub reaches : Reached F h p i (e - length h) → Reached F h p j (f - length h)

-- q holds the checksum of the bytes of s from each place of a window up to the window's end
pub record Tails (s q : List ℕ) (base stop : ℕ) : Type 0 where
  pub ordered : base ≤ stop
  pub within : stop ≤ length s
  pub room : stop < base + length q
  pub sums : (k : ℕ) → base + k ≤ stop → get_or q k 0 ≡ crc (take (stop - (base + k)) (drop (base + k) s))

-- two sums in one number
abbrev pub paired : ℕ × ℕ → ℕ
paired c = c.1 * 256 + c.0

-- q holds the two sums of UBX of the bytes of s from the first place of a window up to each of its places
pub record Runs (s q : List ℕ) (base stop : ℕ) : Type 0 where
  pub ordered : base ≤ stop
  pub within : stop ≤ length s
  pub room : stop < base + length q
  pub sums : (k : ℕ) → base + k ≤ stop → get_or q k 0 ≡ paired (ubx.sums (take k (drop base s)))

-- the two sums of the first k bytes of s, for each k, stand in d
pub record Summed (s d : List ℕ) : Type 0 where
  pub sums : (k : ℕ) → k ≤ length s → get_or d k 0 ≡ paired (ubx.sums (take k s))

-- at place i of s stands a B5; 62 follows, and what a payload of n bytes asks for is there
abbrev pub Whole : List ℕ → ℕ → ℕ → Type 0
Whole s i n = (get_or s (i + 1) 0 ≡ 0x62) × (n ≡ get_or s (i + 4) 0 + get_or s (i + 5) 0 * 256) × (n ≤ 1021) × (i + (n + 8) ≤ length s)

-- what the B5 at place i of s and the bytes behind it claim: all is decided; or a frame of n bytes is there, if its sums are right
abbrev pub Claim : List ℕ → ℕ → Candidate → Type 0
Claim s i Incomplete = Incomplete ≡ candidate ubx.ubx (drop i s)
Claim s i (NotValid n) = NotValid n ≡ candidate ubx.ubx (drop i s)
Claim s i (Good n) = (8 ≤ n) × Whole s i (n - 8)

-- the windows of a search in s for both kinds: the tails in q, and the runs in r
pub record Ready (s q r : List ℕ) (base stop ubxBase ubxStop : ℕ) : Type 0 where
  pub tails : Tails s q base stop
  pub tails_room : length q ≡ 4097
  pub runs : Runs s r ubxBase ubxStop
  pub runs_room : length r ≡ 4097

-- The places found lie within the n bytes held and the m bytes of the piece, and what is left has room in an area of so many bytes.
abbrev pub CanHold : (area n m : ℕ) → Searched → Type 0
CanHold area n m (More i) = (i ≤ n + m) × (n + m ≤ i + area)
CanHold area n m (Frame i l t) = (t ≤ m) × (i + l ≤ n + t) × (n + t ≤ i + area)

-- the kind of a frame, by its first byte
abbrev pub kind_at : ℕ → Kind
kind_at x = cond (eqb x 0xB5) Ubx Rtcm

-- a frame of l bytes behind i skipped, with t bytes taken: the output is q, and the m bytes g are held
abbrev pub moved_frame : List ℕ → Scanner → ℕ → ℕ → ℕ → List ℕ → List ℕ → ℕ → FedOutcome Kind
moved_frame a x i l t q g m = outcome (Accepted (call.Frame l t i (held_from x + i) (kind_at (get_or q 0 0)) (onwards x t m))) (onto g a, q)

-- what a search of the bytes held in the area a with the piece p behind them leads to: what is left is held, and a frame goes to the front of the output o
abbrev pub moved : List ℕ → Scanner → List ℕ → List ℕ → Searched → FedOutcome Kind
moved a x p o (More i) =
    outcome (Accepted (call.More (length p) i (onwards x (length p) (x.count + length p - i)))) (onto (drop i (take x.count a ++ p)) a, o)
moved a x p o (Frame i l t) = moved_frame a x i l t (onto (take l (drop i (take x.count a ++ take t p))) o) (drop (i + l) (take x.count a ++ take t p)) (x.count + t - (i + l))
