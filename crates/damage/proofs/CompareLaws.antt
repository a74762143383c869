-- What comparing finds is the run from the first to the last differing byte, and it is a part of what was received. Assumes nothing.
use mathlib.Core.Path.{◌≡◌, refl, sym, ap, subst, ◌∙◌}
use mathlib.Core.Bool.{Bool, true, false, cond}
use mathlib.Core.List.{List}
use Prim.Native.Nat.{ℕ, zero, suc, ◌+◌, ◌-◌, ◌≤◌, ◌<◌}
use native.Mathlib.Omega.{arith}
use lib.ListN.{length, get_or}
use lib.Dec.{eqb, ltb}
use borrow.Author.Tests.{eqb-true, eqb-false, eq-eqb, ne_eqb, ltb-true, ltb-false}
use Rattle.bits.specs.Told.{Told, Accepted, Refused, size}
use Rattle.bits.specs.Part.{part, within}
use Rattle.damage.specs.Compare.{past_last, first_from, Run, run, differs, compare, part_of}
use Rattle.damage.specs.Answers.{told_compared}
use Rattle.std.specs.Prelude.{Result, Ok, Err}
use Rattle.bits.specs.declared.refusal.Refusal.{Refusal}
use Rattle.damage.specs.declared.compare.Run as code

-- what was accepted, and 1 if something was
found : Told Run → Run
found (Accepted r) = r
found (Refused n carried) = run 0 0

accepts : Told Run → ℕ
accepts (Accepted r) = 1
accepts (Refused n carried) = 0

module _ (s t : List ℕ) where
  -- ---- the last differing place

  abbrev Same : ℕ → Type 0
  Same i = get_or s i 0 ≡ get_or t i 0

  pub last_le : (n : ℕ) → past_last s t n ≤ n
  unfolding past_last
  last_le zero = omega arith
  last_le (suc k) = go (eqb (get_or s k 0) (get_or t k 0)) (last_le k)
    where
      go : (b : Bool) → past_last s t k ≤ k → cond b (past_last s t k) (suc k) ≤ suc k
      go true h = omega arith
      go false h = omega arith

  pub behind_same : (n i : ℕ) → past_last s t n ≤ i → i < n → Same i
  unfolding past_last
  behind_same zero i h l = absurd (omega arith)
  behind_same (suc k) i h l = go (eqb (get_or s k 0) (get_or t k 0)) refl (behind_same k i) h
    where
      here : (b : Bool) → eqb i k ≡ b → Same k → (i < k → Same i) → Same i
      here true e same earlier = rw (eqb-true i k e) same
      here false e same earlier = earlier (omega (arith, eqb-false i k e))

      go : (b : Bool) → eqb (get_or s k 0) (get_or t k 0) ≡ b → (past_last s t k ≤ i → i < k → Same i) → cond b (past_last s t k) (suc k) ≤ i → Same i
      go true e earlier m = here (eqb i k) refl (eqb-true _ _ e) (earlier m)
      go false e earlier m = absurd (omega arith)

  pub last_differs : (n : ℕ) → 0 < past_last s t n → Same (past_last s t n - 1) → ⊥
  unfolding past_last
  last_differs zero h = absurd (omega arith)
  last_differs (suc k) h = go (eqb (get_or s k 0) (get_or t k 0)) refl (last_differs k) h
    where
      go : (b : Bool) → eqb (get_or s k 0) (get_or t k 0) ≡ b → (0 < past_last s t k → Same (past_last s t k - 1) → ⊥)
          → 0 < cond b (past_last s t k) (suc k) → Same (cond b (past_last s t k) (suc k) - 1) → ⊥
      go true e earlier m same = earlier m same
      go false e earlier m same =
          let q : suc k - 1 ≡ k = omega arith in
          let at : Same k = rw q at same in
          eqb-false _ _ e at

  -- ---- the first differing place

  pub first_le : (n i : ℕ) → first_from s t i n ≤ i + n
  unfolding first_from
  first_le zero i = omega arith
  first_le (suc n) i = go (eqb (get_or s i 0) (get_or t i 0)) (first_le n (suc i))
    where
      go : (b : Bool) → first_from s t (suc i) n ≤ suc i + n → cond b (first_from s t (suc i) n) i ≤ i + suc n
      go true h = omega arith
      go false h = omega arith

  pub before_same : (n i j : ℕ) → i ≤ j → j < first_from s t i n → Same j
  unfolding first_from
  before_same zero i j h l = absurd (omega arith)
  before_same (suc n) i j h l = go (eqb (get_or s i 0) (get_or t i 0)) refl (before_same n (suc i) j) l
    where
      here : (b : Bool) → eqb j i ≡ b → Same i → (suc i ≤ j → Same j) → Same j
      here true e same later = rw (eqb-true j i e) same
      here false e same later = later (omega (arith, eqb-false j i e))

      go : (b : Bool) → eqb (get_or s i 0) (get_or t i 0) ≡ b → (suc i ≤ j → j < first_from s t (suc i) n → Same j) → j < cond b (first_from s t (suc i) n) i → Same j
      go true e later m = here (eqb j i) refl (eqb-true _ _ e) (λ k. later k m)
      go false e later m = absurd (omega arith)

  pub first_differs : (n i : ℕ) → first_from s t i n < i + n → Same (first_from s t i n) → ⊥
  unfolding first_from
  first_differs zero i h = absurd (omega arith)
  first_differs (suc n) i h = go (eqb (get_or s i 0) (get_or t i 0)) refl (first_differs n (suc i)) h
    where
      go : (b : Bool) → eqb (get_or s i 0) (get_or t i 0) ≡ b → (first_from s t (suc i) n < suc i + n → Same (first_from s t (suc i) n) → ⊥)
          → cond b (first_from s t (suc i) n) i < i + suc n → Same (cond b (first_from s t (suc i) n) i) → ⊥
      go true e later m same = later (omega arith) same
      go false e later m same = eqb-false _ _ e same

  -- ---- from the first to the last

  -- r is the run from the first to the last of the n places at which s and t differ
  pub record FirstToLast (n : ℕ) (r : Run) : Type 0 where
    pub within : r.start + r.count ≤ n
    pub before : (i : ℕ) → i < r.start → Same i
    pub behind : (i : ℕ) → r.start + r.count ≤ i → i < n → Same i
    pub first : 0 < r.count → Same r.start → ⊥
    pub last : 0 < r.count → Same (r.start + r.count - 1) → ⊥

  -- what is compared is so, and where nothing differs the run is empty and at the start
  pub first_to_last : (n : ℕ) → FirstToLast n (differs s t n)
  first_to_last n = record {
    within = omega (arith, less, more);
    before = λ i h. before_same e 0 i (omega arith) h;
    behind = λ i h l. behind_same n i (omega (arith, less)) l;
    first = λ h. first_differs e 0 (omega arith);
    last = λ h same. last_differs n (omega arith) (rw joined at same);
  }
    where
      e : ℕ
      e = past_last s t n

      less : first_from s t 0 (past_last s t n) ≤ 0 + past_last s t n
      less = first_le (past_last s t n) 0

      more : past_last s t n ≤ n
      more = last_le n

      joined : first_from s t 0 (past_last s t n) + (past_last s t n - first_from s t 0 (past_last s t n)) - 1 ≡ past_last s t n - 1
      joined = omega (arith, less)

  -- ---- by the first and the last differing place that the code found

  -- nothing differs
  pub none_differs : length s ≡ length t → ((k : ℕ) → k < length t → Same k) → Accepted (run 0 0) ≡ compare s t
  unfolding compare
  none_differs l same =
      let e : past_last s t (length t) ≡ 0 = go (past_last s t (length t)) refl in
      rw (eq-eqb (length s) (length t) l, e, nothing)
    where
      go : (x : ℕ) → past_last s t (length t) ≡ x → past_last s t (length t) ≡ 0
      go zero q = q
      go (suc x) q =
          let m = last_le (length t) in
          absurd (last_differs (length t) (omega (arith, q)) (same (past_last s t (length t) - 1) (omega (arith, q, m))))

      nothing : first_from s t 0 0 ≡ 0
      nothing = let h = first_le 0 0 in omega (arith, h)

  module _ (i j : ℕ) (hj : j < length t) (dj : Same j → ⊥) (behind : (k : ℕ) → j < k → k < length t → Same k) where
    -- the place j is the last one
    is_last : past_last s t (length t) ≡ j + 1
    is_last = go (ltb (past_last s t (length t)) (j + 1)) refl (ltb (j + 1) (past_last s t (length t))) refl
      where
        go : (a : Bool) → ltb (past_last s t (length t)) (j + 1) ≡ a → (b : Bool) → ltb (j + 1) (past_last s t (length t)) ≡ b → past_last s t (length t) ≡ j + 1
        go true p b q = let h = ltb-true _ _ p in absurd (dj (behind_same (length t) j (omega (arith, h)) hj))
        go false p true q =
            let h = ltb-true _ _ q in
            let m = last_le (length t) in
            absurd (last_differs (length t) (omega (arith, h)) (behind (past_last s t (length t) - 1) (omega (arith, h)) (omega (arith, h, m))))
        go false p false q = let h = ltb-false _ _ p in let m = ltb-false _ _ q in omega (arith, h, m)

    module _ (di : Same i → ⊥) (before : (k : ℕ) → k < i → Same k) where
      first_so : i ≤ j
      first_so = go (ltb j i) refl
        where
          go : (b : Bool) → ltb j i ≡ b → i ≤ j
          go true q = absurd (dj (before j (ltb-true _ _ q)))
          go false q = ltb-false _ _ q

      -- the place i is the first one
      is_first : first_from s t 0 (j + 1) ≡ i
      is_first = go (ltb (first_from s t 0 (j + 1)) i) refl (ltb i (first_from s t 0 (j + 1))) refl
        where
          go : (a : Bool) → ltb (first_from s t 0 (j + 1)) i ≡ a → (b : Bool) → ltb i (first_from s t 0 (j + 1)) ≡ b → first_from s t 0 (j + 1) ≡ i
          go true p b q =
              let h = ltb-true _ _ p in
              absurd (first_differs (j + 1) 0 (omega (arith, h, first_so)) (before (first_from s t 0 (j + 1)) h))
          go false p true q = absurd (di (before_same (j + 1) 0 i (omega arith) (ltb-true _ _ q)))
          go false p false q = let h = ltb-false _ _ p in let m = ltb-false _ _ q in omega (arith, h, m)

      pub both_differ : length s ≡ length t → Accepted (run i (j + 1 - i)) ≡ compare s t
      unfolding compare
      both_differ l = rw (eq-eqb (length s) (length t) l, is_last, is_first)

  pub unequal : (length s ≡ length t → ⊥) → size ≡ compare s t
  unfolding compare
  unequal n = rw (ne_eqb (length s) (length t) n)

  -- ---- by the answer r of the code

  fits_of : (b : Bool) (i n : ℕ) → cond b (Accepted (differs s t (length t))) size ≡ Accepted (run i n) → i + n ≤ length t
  unfolding found accepts
  fits_of true i n e =
      let w : differs s t (length t) ≡ run i n = ap (λ (x : Told Run). found x) e in
      let h : (differs s t (length t)).start + (differs s t (length t)).count ≤ length t = (first_to_last (length t)).within in
      subst (λ (r : Run). r.start + r.count ≤ length t) w h
  fits_of false i n e = let no : ◌≡◌ {A = ℕ} 0 1 = ap (λ (x : Told Run). accepts x) e in absurd (omega arith)

  module _ (p : ℕ × ℕ) (r : Result code.Run Refusal) (q : told_compared r ≡ compare s t) where
    pub refused_part : (x : Refusal) → r ≡ Err x → within p (part 0 0 t) ≡ within p (part_of (compare s t) t)
    refused_part x g = ap (λ (x : Told Run). within p (part_of x t)) (sym (ap told_compared g) ∙ q)

    module _ (v : code.Run) (g : r ≡ Ok v) where
      pub run_fits : v.start + v.count ≤ length t
      unfolding compare
      run_fits = fits_of (eqb (length s) (length t)) v.start v.count (sym q ∙ ap told_compared g)

      pub accepted_part : within p (part v.start (v.start + v.count - v.start) t) ≡ within p (part_of (compare s t) t)
      accepted_part =
          let d : v.start + v.count - v.start ≡ v.count = omega arith in
          ap (λ (k : ℕ). within p (part v.start k t)) d ∙ ap (λ (x : Told Run). within p (part_of x t)) (sym (ap told_compared g) ∙ q)
