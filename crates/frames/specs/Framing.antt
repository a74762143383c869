-- A framing: how many bytes decide at the front of a list, and what they decide. Assumes nothing.
use Rattle.std.specs.Prelude.{◌≡◌, cond, List, ◌++◌, ℕ, ◌≤◌, length, leb}
use Rattle.frames.specs.Scan.{Decision, Take, Wait}

-- How many bytes are needed, as far as the bytes at hand tell; and what is decided once that many are there.
pub record Framing (W K : Type 0) : Type 0 where
  pub need : List ℕ → ℕ
  pub verdict : List ℕ → Decision W K

-- with fewer bytes than are needed, wait; else the verdict
abbrev pub decide : {W K : Type 0} → Framing W K → List ℕ → Decision W K
decide F s = cond (leb (F.need s) (length s)) (F.verdict s) Wait

-- What every framing keeps to.
pub record Lawful {W K : Type 0} (F : Framing W K) : Type 0 where
  -- some byte is needed, and never more than the 1,029 that can be held
  pub needs : (s : List ℕ) → 1 ≤ F.need s
  pub most : (s : List ℕ) → F.need s ≤ 1029
  -- once the bytes needed are there, need and verdict stay whatever follows
  pub same_need : (s t : List ℕ) → F.need s ≤ length s → F.need (s ++ t) ≡ F.need s
  pub same_verdict : (s t : List ℕ) → F.need s ≤ length s → F.verdict (s ++ t) ≡ F.verdict s
  -- a need that later bytes would show to be met is met without them
  pub prompt : (s t : List ℕ) → F.need (s ++ t) ≤ length s → F.need s ≤ length s
  -- a frame is the bytes that were needed, and a verdict does not wait
  pub taken : (s : List ℕ) (k : K) (n : ℕ) → F.verdict s ≡ Take k n → n ≡ F.need s
  pub decided : (s : List ℕ) → F.verdict s ≡ Wait → ⊥
