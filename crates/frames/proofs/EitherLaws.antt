-- Two lawful framings, told apart by the first byte, are a lawful framing. Assumes nothing.
use mathlib.Core.Path.{◌≡◌}
use mathlib.Core.Bool.{Bool, true, false, cond}
use mathlib.Core.List.{List, ◌++◌}
use Prim.Native.Nat.{ℕ, ◌≤◌}
use native.Mathlib.Omega.{arith}
use lib.ListN.{length, get_or, get_or-append}
use lib.Dec.{eqb}
use Rattle.frames.specs.Scan.{Decision, Take, Wait}
use Rattle.frames.specs.Framing.{Framing, Lawful}
use Rattle.frames.specs.Either.{either}

module _ {W K : Type 0} (F G : Framing W K) where
  -- need and verdict, by whether the first byte is the one that tells
  abbrev need_if : Bool → List ℕ → ℕ
  need_if b s = cond b (F.need s) (G.need s)

  abbrev verdict_if : Bool → List ℕ → Decision W K
  verdict_if b s = cond b (F.verdict s) (G.verdict s)

  module _ (L : Lawful F) (M : Lawful G) where
    some : (b : Bool) (s : List ℕ) → 1 ≤ need_if b s
    some true s = L.needs s
    some false s = M.needs s

    most_if : (b : Bool) (s : List ℕ) → need_if b s ≤ 1029
    most_if true s = L.most s
    most_if false s = M.most s

    need_stays : (b : Bool) (s t : List ℕ) → need_if b s ≤ length s → need_if b (s ++ t) ≡ need_if b s
    need_stays true s t h = L.same_need s t h
    need_stays false s t h = M.same_need s t h

    verdict_stays : (b : Bool) (s t : List ℕ) → need_if b s ≤ length s → verdict_if b (s ++ t) ≡ verdict_if b s
    verdict_stays true s t h = L.same_verdict s t h
    verdict_stays false s t h = M.same_verdict s t h

    prompt_if : (b : Bool) (s t : List ℕ) → need_if b (s ++ t) ≤ length s → need_if b s ≤ length s
    prompt_if true s t h = L.prompt s t h
    prompt_if false s t h = M.prompt s t h

    taken_if : (b : Bool) (s : List ℕ) (k : K) (n : ℕ) → verdict_if b s ≡ Take k n → n ≡ need_if b s
    taken_if true s k n e = L.taken s k n e
    taken_if false s k n e = M.taken s k n e

    decided_if : (b : Bool) (s : List ℕ) → verdict_if b s ≡ Wait → ⊥
    decided_if true s e = L.decided s e
    decided_if false s e = M.decided s e

    -- EITHER of two lawful framings is lawful. Nothing is asked of the byte: both need a first byte, so bytes that follow do not change it.
    pub either_lawful : (x : ℕ) → Lawful (either x F G)
    unfolding either
    either_lawful x =
        record {
          needs = λ s. some (eqb (get_or s 0 0) x) s;
          most = λ s. most_if (eqb (get_or s 0 0) x) s;
          same_need = λ s t h. rw (get_or-append s t 0 0 (omega (arith, some (eqb (get_or s 0 0) x) s))) (need_stays (eqb (get_or s 0 0) x) s t h);
          same_verdict = λ s t h. rw (get_or-append s t 0 0 (omega (arith, some (eqb (get_or s 0 0) x) s))) (verdict_stays (eqb (get_or s 0 0) x) s t h);
          prompt = λ s t h.
              prompt_if (eqb (get_or s 0 0) x) s t (rw (get_or-append s t 0 0 (omega (arith, some (eqb (get_or (s ++ t) 0 0) x) (s ++ t)))) at h);
          taken = λ s k n e. taken_if (eqb (get_or s 0 0) x) s k n e;
          decided = λ s e. decided_if (eqb (get_or s 0 0) x) s e;
        }
