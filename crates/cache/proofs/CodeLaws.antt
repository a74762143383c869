-- Each case of the code: the tests of a key, a value and an entry, and the cases of each call. Assumes nothing.
use mathlib.Core.Path.{◌≡◌, refl, sym, ap, ap₂, ◌∙◌, subst}
use mathlib.Core.List.{List, [], ◌∷◌}
use mathlib.Core.Option.{none, some}
use mathlib.Core.Option as M
use mathlib.Core.Bool.{Bool, true, false, cond, ◌&&◌, false≢true}
use Prim.Native.Nat.{ℕ, suc, ◌+◌, ◌-◌, ◌^◌, ◌≤◌, ◌<◌}
use native.Mathlib.Omega.{arith}
use lib.ListN.{length, set, get_or}
use lib.Dec.{ltb, eqb}
use borrow.Author.Tests.{ltb-true, ltb-false, lt-ltb, le-ltb, eq-eqb, eqb-true, eqb-false}
use Rattle.std.specs.Prelude.{not, Option, Some, None, MatchOption, position, Result, Ok, Err, IsErrAnd}
use Rattle.bits.specs.Told.{Accepted, Refused, range, size, full, absent}
use Rattle.bits.specs.Refusals.{told, number_of, carried_by}
use Rattle.bits.specs.declared.refusal.Refusal.{Refusal}
use Rattle.std.specs.Option.{option_or}
use Rattle.bits.specs.Outcome.{Outcome, outcome}
use Rattle.cache.specs.Steps.{as_one}
use Rattle.cache.specs.Answers.{told_admitted}
use Rattle.cache.proofs.PlaceLaws.{Placed, placed}
use Rattle.cache.specs.Cache.{Key, key, same, Value, value, fits_value, free, key_in, widened, value_in, has_key, entry_of, blank, first, find, Call, fits, Store, Remove, Lookup, store_at, remove_at, act, admitted, step, Answer}

pub both : (a b : Bool) → a && b ≡ true → (a ≡ true) × (b ≡ true)
both true b e = (refl, e)
both false b e = absurd (false≢true e)

-- ---- numbers within their fields

module _ (i b : ℕ) where
  module _ (h : i ≤ 15) where
    li : i < 2 ^ 4
    li = omega arith

    pub small_bias : b < 8192 → true ≡ fits_value (value i b)
    unfolding fits_value
    small_bias l = simp (lt-ltb _ _ li, lt-ltb b (2 ^ 13) l)

    pub large_bias : 8192 ≤ b → b < 2 ^ 32 → ltb 4294959103 b ≡ fits_value (value i b)
    unfolding fits_value
    large_bias l u = go (ltb 4294959103 b) refl
      where
        go : (c : Bool) → ltb 4294959103 b ≡ c → ltb 4294959103 b ≡ ltb i (2 ^ 4) && cond (ltb b (2 ^ 13)) true (cond (ltb b (2 ^ 32 - 2 ^ 13)) false (ltb b (2 ^ 32)))
        go true q =
            let m : 4294959103 < b = ltb-true 4294959103 b q in
            let n : 2 ^ 32 - 2 ^ 13 ≤ b = omega arith in
            q ∙ simp (lt-ltb _ _ li, le-ltb b (2 ^ 13) l, le-ltb b (2 ^ 32 - 2 ^ 13) n, lt-ltb b (2 ^ 32) u)
        go false q =
            let m : b ≤ 4294959103 = ltb-false 4294959103 b q in
            let n : b < 2 ^ 32 - 2 ^ 13 = omega arith in
            q ∙ simp (lt-ltb _ _ li, le-ltb b (2 ^ 13) l, lt-ltb b (2 ^ 32 - 2 ^ 13) n)

pub no_value : fits_value (value 0 0) ≡ true
unfolding fits_value
no_value = refl

-- ---- one entry

-- four numbers of 16 bits are read off the one number
apart : (p s a g q t b h : ℕ) → p < 2 ^ 16 → s < 2 ^ 16 → a < 2 ^ 16 → q < 2 ^ 16 → t < 2 ^ 16 → b < 2 ^ 16 → as_one p s a g ≡ as_one q t b h
    → (p ≡ q) × (s ≡ t) × (a ≡ b) × (g ≡ h)
unfolding as_one
apart p s a g q t b h lp ls la lq lt lb e = (omega arith, omega arith, omega arith, omega arith)

-- so one comparison tells whether two keys are the same
pub compared : (p s a g q t b h : ℕ) → p < 2 ^ 16 → s < 2 ^ 16 → a < 2 ^ 16 → q < 2 ^ 16 → t < 2 ^ 16 → b < 2 ^ 16
    → eqb (as_one p s a g) (as_one q t b h) ≡ same (key p s a g) (key q t b h)
unfolding same
compared p s a g q t b h lp ls la lq lt lb = go (eqb (as_one p s a g) (as_one q t b h)) refl (same (key p s a g) (key q t b h)) refl
  where
    go : (c : Bool) → eqb (as_one p s a g) (as_one q t b h) ≡ c → (d : Bool) → same (key p s a g) (key q t b h) ≡ d
        → eqb (as_one p s a g) (as_one q t b h) ≡ same (key p s a g) (key q t b h)
    go true e d r =
        let x = apart p s a g q t b h lp ls la lq lt lb (eqb-true _ _ e) in
        e ∙ simp (eq-eqb _ _ x.0, eq-eqb _ _ x.1, eq-eqb _ _ x.2, eq-eqb _ _ x.3)
    go false e false r = e ∙ sym r
    go false e true r =
        let x = both (eqb p q) _ r in
        let y = both (eqb s t) _ x.1 in
        let z = both (eqb a b) _ y.1 in
        let alike : as_one p s a g ≡ as_one q t b h =
        ap₂ (λ i j. as_one i j a g) (eqb-true p q x.0) (eqb-true s t y.0) ∙ ap₂ (as_one q t) (eqb-true a b z.0) (eqb-true g h z.1) in
        absurd (eqb-false (as_one p s a g) (as_one q t b h) e alike)

pub stays : (x : ℕ) → x < 32768 → x ≡ widened x
unfolding widened
stays x h = simp (lt-ltb x (2 ^ 15) h)

pub rises : (x : ℕ) → 32768 ≤ x → x + 4294901760 ≡ widened x
unfolding widened
rises x h = simp (le-ltb x (2 ^ 15) h)

-- ---- the value under a key is that of its first place

find_at : (k : Key) (l : List (List ℕ)) → first (has_key k) l < length l → find k l ≡ some (value_in (get_or l (first (has_key k) l) []))
unfolding find first
find_at k [] h = absurd (omega arith)
find_at k (e ∷ l) h = go (has_key k e) h (find_at k l)
  where
    go : (b : Bool) → cond b 0 (suc (first (has_key k) l)) < suc (length l)
        → (first (has_key k) l < length l → find k l ≡ some (value_in (get_or l (first (has_key k) l) [])))
        → cond b (some (value_in e)) (find k l) ≡ some (value_in (get_or (e ∷ l) (cond b 0 (suc (first (has_key k) l))) []))
    go true q ih = refl
    go false q ih = ih (omega arith)

find_none : (k : Key) (l : List (List ℕ)) → length l ≤ first (has_key k) l → find k l ≡ none
unfolding find first
find_none k [] h = refl
find_none k (e ∷ l) h = go (has_key k e) h (find_none k l)
  where
    go : (b : Bool) → suc (length l) ≤ cond b 0 (suc (first (has_key k) l)) → (length l ≤ first (has_key k) l → find k l ≡ none)
        → cond b (some (value_in e)) (find k l) ≡ none
    go true q ih = absurd (omega arith)
    go false q ih = ih (omega arith)

-- ---- calls

-- a refusal that is handed on
handed_on : {T A : Type 0} (told_of : T → A) (r : Result T Refusal) (x : Refusal) → IsErrAnd r (λ e. e ≡ x) → told told_of r ≡ Refused (number_of x) (carried_by x)
handed_on told_of (Err e) x p = ap (λ y. Refused (number_of y) (carried_by y)) p
handed_on told_of (Ok v) x p = absurd p

-- what every call refuses first, and what it does where it refuses nothing
module _ (c : Call) (l : List (List ℕ)) (b : Bool) (fit : b ≡ fits c) where
  abbrev refusal : Refusal → Outcome (M.Option Value) (List (List ℕ))
  refusal x = outcome (Refused (number_of x) (carried_by x)) l

  refused_so : (x : Refusal) → told_admitted (Err x) ≡ admitted (length l) b → refusal x ≡ step c l
  unfolding step
  refused_so x e = subst (λ (d : Bool). refusal x ≡ cond (ltb 512 (length l)) (outcome size l) (cond (not d) (outcome (range 0) l) (act c l))) fit (go (ltb 512 (length l)) b e)
    where
      go : (a d : Bool) → told_admitted (Err x) ≡ cond a size (cond (not d) (range 0) (Accepted none))
          → refusal x ≡ cond a (outcome size l) (cond (not d) (outcome (range 0) l) (act c l))
      go true d p = ap (λ (a : Answer). outcome a l) p
      go false false p = ap (λ (a : Answer). outcome a l) p
      go false true p = cc

  pub refused : {T : Type 0} (told_of : T → M.Option Value) (r : Result T Refusal) (x : Refusal) → told_admitted (Err x) ≡ admitted (length l) b → IsErrAnd r (λ e. e ≡ x) → outcome (told told_of r) l ≡ step c l
  refused told_of r x e p = ap (λ (a : Answer). outcome a l) (handed_on told_of r x p) ∙ refused_so x e

  pub taken : (u : Unit {0}) → told_admitted (Ok u) ≡ admitted (length l) b → (fits c ≡ true) × (act c l ≡ step c l)
  unfolding step
  taken u e = subst (λ (d : Bool). (d ≡ true) × (act c l ≡ cond (ltb 512 (length l)) (outcome size l) (cond (not d) (outcome (range 0) l) (act c l)))) fit (go (ltb 512 (length l)) b e)
    where
      go : (a d : Bool) → told_admitted (Ok u) ≡ cond a size (cond (not d) (range 0) (Accepted none))
          → (d ≡ true) × (act c l ≡ cond a (outcome size l) (cond (not d) (outcome (range 0) l) (act c l)))
      go true d p = absurd (cc)
      go false false p = absurd (cc)
      go false true p = (refl, refl)

-- the place of the key of an entry w that was made for k
pub place_of : (k : Key) (v : Value) (w : List ℕ) (l : List (List ℕ)) (o : Option ℕ) → w ≡ entry_of k v → o ≡ position (has_key (key_in w)) l → Placed (has_key k) l o
place_of (key p s a g) (value i b) w l o e q = placed (has_key (key p s a g)) l o (q ∙ ap (λ (x : List ℕ). position (has_key (key_in x)) l) e)

-- where w is stored, which was made for k
pub stored : (k : Key) (v : Value) (l : List (List ℕ)) (w : List ℕ) → w ≡ entry_of k v
    → (o : Option ℕ) → Placed (has_key k) l o → (r : Option ℕ) → Placed free l r → (i : Option ℕ) → i ≡ option_or o r
    → MatchOption i (outcome full l ≡ act (Store k v) l) (λ n. outcome (Accepted none) (set l n w) ≡ act (Store k v) l)
unfolding act store_at
stored k v l w is o at r at_free i e = subst (λ x. MatchOption x (outcome full l ≡ act (Store k v) l) (λ n. outcome (Accepted none) (set l n w) ≡ act (Store k v) l)) (sym e) (go o at r at_free)
  where
    go : (o : Option ℕ) → Placed (has_key k) l o → (r : Option ℕ) → Placed free l r
        → MatchOption (option_or o r) (outcome full l ≡ act (Store k v) l) (λ n. outcome (Accepted none) (set l n w) ≡ act (Store k v) l)
    go (Some i) p r q =
        let h : first (has_key k) l < length l = omega (arith, p.0, p.1) in
        rw (lt-ltb _ _ h, p.0, is)
    go None p (Some j) q =
        let h : first free l < length l = omega (arith, q.0, q.1) in
        rw (le-ltb _ _ p, lt-ltb _ _ h, q.0, is)
    go None p None q = rw (le-ltb _ _ p, le-ltb _ _ q)

pub stored_in : (k : Key) (v : Value) (l : List (List ℕ)) (w : List ℕ) → w ≡ entry_of k v → (i : Option ℕ)
    → i ≡ option_or (position (has_key (key_in w)) l) (position free l)
    → MatchOption i (outcome full l ≡ act (Store k v) l) (λ n. outcome (Accepted none) (set l n w) ≡ act (Store k v) l)
stored_in k v l w is i e =
    stored k v l w is (position (has_key (key_in w)) l) (place_of k v w l _ is refl) (position free l) (placed free l _ refl) i e

module _ (k : Key) (l : List (List ℕ)) (o : Option ℕ) (at : Placed (has_key k) l o) where
  pub removed : MatchOption o (outcome absent l ≡ act (Remove k) l) (λ i. outcome (Accepted none) (set l i blank) ≡ act (Remove k) l)
  unfolding act remove_at
  removed = go o at
    where
      go : (o : Option ℕ) → Placed (has_key k) l o → MatchOption o (outcome absent l ≡ act (Remove k) l) (λ i. outcome (Accepted none) (set l i blank) ≡ act (Remove k) l)
      go (Some i) p =
          let h : first (has_key k) l < length l = omega (arith, p.0, p.1) in
          rw (lt-ltb _ _ h, p.0)
      go None p = rw (le-ltb _ _ p)

  pub looked_up : MatchOption o (outcome absent l ≡ act (Lookup k) l) (λ i. outcome (Accepted (some (value_in (get_or l i [])))) l ≡ act (Lookup k) l)
  unfolding act
  looked_up = go o at
    where
      go : (o : Option ℕ) → Placed (has_key k) l o → MatchOption o (outcome absent l ≡ act (Lookup k) l) (λ i. outcome (Accepted (some (value_in (get_or l i [])))) l ≡ act (Lookup k) l)
      go (Some i) p =
          let h : first (has_key k) l < length l = omega (arith, p.0, p.1) in
          rw (find_at k l h, p.0)
      go None p = rw (find_none k l p)
