-- Laws of looking up: what is found after an entry was replaced, filled or freed. Assumes nothing.
use mathlib.Core.Path.{◌≡◌, refl, sym, ap, ◌∙◌}
use mathlib.Core.List.{List, [], ◌∷◌}
use mathlib.Core.Option.{none, some}
use mathlib.Core.Bool.{Bool, true, false, cond}
use Prim.Native.Nat.{ℕ, suc, ◌≤◌, ◌<◌}
use native.Mathlib.Omega.{arith}
use lib.ListN.{length, set}
use Rattle.cache.specs.Cache.{Key, Value, same, first}
use Rattle.cache.proofs.Slots.{Slot, free, held, is_free_slot, has, find, NoneHeld}
use Rattle.cache.proofs.KeyLaws.{same_tells, same_swap, same_left, apart, either_order, again}

some_none : {A : Type 0} (v : A) → some v ≡ none → ⊥
some_none v e = let z : ◌≡◌ {A = ℕ} 0 1 = cc in omega arith

-- ---- where the key is

pub place_none : (k : Key) (l : List Slot) → find k l ≡ none → length l ≤ first (has k) l
unfolding find first
place_none k [] e = omega arith
place_none k (free ∷ l) e = let h : length l ≤ first (has k) l = place_none k l e in omega arith
place_none k (held j v ∷ l) e = go (same j k) e (place_none k l)
  where
    go : (b : Bool) → cond b (some v) (find k l) ≡ none → (find k l ≡ none → length l ≤ first (has k) l)
        → suc (length l) ≤ cond b 0 (suc (first (has k) l))
    go true q ih = absurd (some_none v q)
    go false q ih = let h : length l ≤ first (has k) l = ih q in omega arith

pub place_some : (k : Key) (l : List Slot) (w : Value) → find k l ≡ some w → first (has k) l < length l
unfolding find first
place_some k [] w e = absurd (some_none w (sym e))
place_some k (free ∷ l) w e = let h : first (has k) l < length l = place_some k l w e in omega arith
place_some k (held j v ∷ l) w e = go (same j k) e (place_some k l w)
  where
    go : (b : Bool) → cond b (some v) (find k l) ≡ some w → (find k l ≡ some w → first (has k) l < length l)
        → cond b 0 (suc (first (has k) l)) < suc (length l)
    go true q ih = omega arith
    go false q ih = let h : first (has k) l < length l = ih q in omega arith

-- ---- each key at most once

unfoldable pub Once : List Slot → Type 0
Once [] = Unit
Once (free ∷ l) = Once l
Once (held k v ∷ l) = (find k l ≡ none) × Once l

pub free_none : (k : Key) (l : List Slot) → NoneHeld l → find k l ≡ none
unfolding find NoneHeld
free_none k [] h = refl
free_none k (free ∷ l) h = free_none k l h
free_none k (held j v ∷ l) h = absurd h

pub free_once : (l : List Slot) → NoneHeld l → Once l
unfolding Once NoneHeld
free_once [] h = tt
free_once (free ∷ l) h = free_once l h
free_once (held j v ∷ l) h = absurd h

-- ---- replaced

module _ (k : Key) (v : Value) where
  pub find_replaced : (l : List Slot) (j : Key) → first (has k) l < length l
      → find j (set l (first (has k) l) (held k v)) ≡ cond (same k j) (some v) (find j l)
  unfolding find first
  find_replaced [] j h = absurd (omega arith)
  find_replaced (free ∷ l) j h = find_replaced l j (omega arith)
  find_replaced (held i w ∷ l) j h = go (same i k) refl h (find_replaced l j)
    where
      go : (b : Bool) → same i k ≡ b → cond b 0 (suc (first (has k) l)) < suc (length l)
          → (first (has k) l < length l → find j (set l (first (has k) l) (held k v)) ≡ cond (same k j) (some v) (find j l))
          → find j (set (held i w ∷ l) (cond b 0 (suc (first (has k) l))) (held k v)) ≡ cond (same k j) (some v) (cond (same i j) (some w) (find j l))
      go true e q ih = again (same k j) (some v) (some w) (find j l) ∙ ap (λ (b : Bool). cond (same k j) (some v) (cond b (some w) (find j l))) (sym (same_left i k j e))
      go false e q ih =
          ap (cond (same i j) (some w)) (ih (omega arith))
          ∙ either_order (same i j) (same k j) (some w) (some v) (find j l) (apart i k j e)

  pub once_replaced : (l : List Slot) → first (has k) l < length l → Once l → Once (set l (first (has k) l) (held k v))
  unfolding Once first
  once_replaced [] h o = absurd (omega arith)
  once_replaced (free ∷ l) h o = once_replaced l (omega arith) o
  once_replaced (held i w ∷ l) h o = go (same i k) refl h (once_replaced l)
    where
      go : (b : Bool) → same i k ≡ b → cond b 0 (suc (first (has k) l)) < suc (length l)
          → (first (has k) l < length l → Once l → Once (set l (first (has k) l) (held k v)))
          → Once (set (held i w ∷ l) (cond b 0 (suc (first (has k) l))) (held k v))
      go true e q ih = (ap (λ (x : Key). find x l) (sym (same_tells i k e)) ∙ o.0, o.1)
      go false e q ih =
          (find_replaced l i (omega arith) ∙ ap (λ (b : Bool). cond b (some v) (find i l)) (same_swap k i ∙ e) ∙ o.0, ih (omega arith) o.1)

-- ---- filled

module _ (k : Key) (v : Value) where
  not_here : (i : Key) (w : Value) (l : List Slot) → find k (held i w ∷ l) ≡ none → (same i k ≡ false) × (find k l ≡ none)
  unfolding find
  not_here i w l e = go (same i k) e
    where
      go : (b : Bool) → cond b (some w) (find k l) ≡ none → (b ≡ false) × (find k l ≡ none)
      go true q = absurd (some_none w q)
      go false q = (refl, q)

  pub find_filled : (l : List Slot) (j : Key) → find k l ≡ none → first is_free_slot l < length l
      → find j (set l (first is_free_slot l) (held k v)) ≡ cond (same k j) (some v) (find j l)
  unfolding find first
  find_filled [] j n h = absurd (omega arith)
  find_filled (free ∷ l) j n h = refl
  find_filled (held i w ∷ l) j n h =
      let d = not_here i w l n in
      ap (cond (same i j) (some w)) (find_filled l j d.1 (omega arith))
      ∙ either_order (same i j) (same k j) (some w) (some v) (find j l) (apart i k j d.0)

  pub once_filled : (l : List Slot) → find k l ≡ none → first is_free_slot l < length l → Once l → Once (set l (first is_free_slot l) (held k v))
  unfolding Once first find
  once_filled [] n h o = absurd (omega arith)
  once_filled (free ∷ l) n h o = (n, o)
  once_filled (held i w ∷ l) n h o =
      let d = not_here i w l n in (
        find_filled l i d.1 (omega arith) ∙ ap (λ (b : Bool). cond b (some v) (find i l)) (same_swap k i ∙ d.0) ∙ o.0,
        once_filled l d.1 (omega arith) o.1,
      )

-- ---- freed

module _ (k : Key) where
  pub find_freed : (l : List Slot) (j : Key) → Once l → first (has k) l < length l
      → find j (set l (first (has k) l) free) ≡ cond (same k j) none (find j l)
  unfolding find first Once
  find_freed [] j o h = absurd (omega arith)
  find_freed (free ∷ l) j o h = find_freed l j o (omega arith)
  find_freed (held i w ∷ l) j o h = go (same i k) refl h (find_freed l j o.1)
    where
      gone : same i k ≡ true → (b : Bool) → same k j ≡ b → find j l ≡ cond b none (cond b (some w) (find j l))
      gone e true q = ap (λ (x : Key). find x l) (sym (same_tells i k e ∙ same_tells k j q)) ∙ o.0
      gone e false q = refl

      go : (b : Bool) → same i k ≡ b → cond b 0 (suc (first (has k) l)) < suc (length l)
          → (first (has k) l < length l → find j (set l (first (has k) l) free) ≡ cond (same k j) none (find j l))
          → find j (set (held i w ∷ l) (cond b 0 (suc (first (has k) l))) free) ≡ cond (same k j) none (cond (same i j) (some w) (find j l))
      go true e q ih =
          gone e (same k j) refl ∙ ap (λ (b : Bool). cond (same k j) none (cond b (some w) (find j l))) (sym (same_left i k j e))
      go false e q ih =
          ap (cond (same i j) (some w)) (ih (omega arith))
          ∙ either_order (same i j) (same k j) (some w) none (find j l) (apart i k j e)

  pub once_freed : (l : List Slot) → first (has k) l < length l → Once l → Once (set l (first (has k) l) free)
  unfolding Once first
  once_freed [] h o = absurd (omega arith)
  once_freed (free ∷ l) h o = once_freed l (omega arith) o
  once_freed (held i w ∷ l) h o = go (same i k) refl h (once_freed l)
    where
      go : (b : Bool) → same i k ≡ b → cond b 0 (suc (first (has k) l)) < suc (length l)
          → (first (has k) l < length l → Once l → Once (set l (first (has k) l) free))
          → Once (set (held i w ∷ l) (cond b 0 (suc (first (has k) l))) free)
      go true e q ih = o.1
      go false e q ih =
          (find_freed l i o.1 (omega arith) ∙ ap (λ (b : Bool). cond b none (find i l)) (same_swap k i ∙ e) ∙ o.0, ih (omega arith) o.1)
