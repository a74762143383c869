-- What a lawful framing decides stays decided whatever follows, and 1,029 bytes never wait. Assumes nothing.
use mathlib.Core.Path.{◌≡◌, refl, sym, ◌∙◌}
use mathlib.Core.Bool.{Bool, true, false, cond}
use mathlib.Core.List.{List, ◌++◌}
use Prim.Native.Nat.{ℕ, ◌≤◌, ◌<◌}
use native.Mathlib.Omega.{arith}
use lib.ListN.{length, length-append}
use lib.Dec.{leb}
use borrow.Author.Tests.{le-leb, lt-leb, leb-true, leb-false}
use Rattle.frames.specs.Scan.{Decision, Skip, Take, Wait}
use Rattle.frames.specs.Framing.{Framing, decide, Lawful}

-- what a decider takes is there, and is some byte
abbrev pub Whole : {W K : Type 0} → (List ℕ → Decision W K) → Type 0
Whole {W} {K} d = (s : List ℕ) (k : K) (n : ℕ) → d s ≡ Take k n → (1 ≤ n) × (n ≤ length s)

-- What makes a decider fit for scanning: what it decides stays when bytes follow, and what it takes is there.
pub record Decides {W K : Type 0} (d : List ℕ → Decision W K) : Type 0 where
  pub skips : (s t : List ℕ) (w : W) → d s ≡ Skip w → d (s ++ t) ≡ Skip w
  pub takes : (s t : List ℕ) (k : K) (n : ℕ) → d s ≡ Take k n → d (s ++ t) ≡ Take k n
  pub whole : Whole d

module _ {W K : Type 0} (F : Framing W K) where
  pub enough : (s : List ℕ) → F.need s ≤ length s → decide F s ≡ F.verdict s
  enough s h = rw (le-leb _ _ h)

  pub short : (s : List ℕ) → length s < F.need s → decide F s ≡ Wait
  short s h = rw (lt-leb _ _ h)

  -- what does not wait has the bytes that it needs
  there : (s : List ℕ) (b : Bool) → leb (F.need s) (length s) ≡ b → (q : Decision W K) → cond b (F.verdict s) Wait ≡ q → (q ≡ Wait → ⊥) → F.need s ≤ length s
  there s true e q h n = leb-true _ _ e
  there s false e q h n = absurd (n (sym h))

  skip_decides : (w : W) → ◌≡◌ {A = Decision W K} (Skip w) Wait → ⊥
  skip_decides w e = let z : ◌≡◌ {A = ℕ} 0 1 = cc in omega arith

  take_decides : (k : K) (n : ℕ) → ◌≡◌ {A = Decision W K} (Take k n) Wait → ⊥
  take_decides k n e = let z : ◌≡◌ {A = ℕ} 0 1 = cc in omega arith

  module _ (L : Lawful F) where
    pub decided_stays : (s t : List ℕ) (q : Decision W K) → decide F s ≡ q → (q ≡ Wait → ⊥) → decide F (s ++ t) ≡ q
    decided_stays s t q h n =
        let u : F.need s ≤ length s = there s _ refl q h n in
        let v : F.need (s ++ t) ≤ length (s ++ t) = rw (L.same_need s t u, length-append s t) (omega arith) in
        enough (s ++ t) v ∙ L.same_verdict s t u ∙ sym (enough s u) ∙ h

    pub decides : Decides (decide F)
    decides =
        record {
          skips = λ s t w e. decided_stays s t (Skip w) e (skip_decides w);
          takes = λ s t k n e. decided_stays s t (Take k n) e (take_decides k n);
          whole = λ s k n e.
              let u : F.need s ≤ length s = there s _ refl (Take k n) e (take_decides k n) in
              let v : n ≡ F.need s = L.taken s k n (sym (enough s u) ∙ e) in
              (omega (arith, L.needs s), omega arith);
        }

    -- what waits is fewer than 1,029 bytes
    pub waits_short : (s : List ℕ) → decide F s ≡ Wait → length s < 1029
    waits_short s e = go (leb (F.need s) (length s)) refl
      where
        go : (b : Bool) → leb (F.need s) (length s) ≡ b → length s < 1029
        go true u = absurd (L.decided s (sym (enough s (leb-true (F.need s) (length s) u)) ∙ e))
        go false u = let v : length s < F.need s = leb-false (F.need s) (length s) u in omega (arith, L.most s)

    -- A candidate at the front is decided once 1,028 bytes behind its first are there.
    pub decided_in_time : (s : List ℕ) → 1029 ≤ length s → decide F s ≡ Wait → ⊥
    decided_in_time s l e = omega (arith, waits_short s e)
