-- Laws of a call: its length, each key at most once, and what every key then shows. Assumes nothing.
use mathlib.Core.Path.{◌≡◌, refl, sym, ap, ◌∙◌, subst}
use mathlib.Core.List.{List}
use mathlib.Core.Option.{Option, none, some}
use mathlib.Core.Bool.{Bool, true, false, cond}
use Prim.Native.Nat.{◌≤◌, ◌<◌}
use lib.ListN.{length, set, length-set}
use lib.Dec.{ltb}
use borrow.Author.Tests.{ltb-true, lt-ltb, le-ltb}
use Rattle.bits.specs.Told.{Accepted, full, absent}
use Rattle.bits.specs.Outcome.{outcome}
use Rattle.cache.specs.Cache.{Key, Value, same, first, Call, Store, Remove, Lookup, Answer, tell, store_at, remove_at}
use Rattle.cache.proofs.Slots.{Out, Slot, free, held, is_free_slot, has, find, act}
use Rattle.cache.proofs.FindLaws.{Once, place_none, place_some, find_replaced, once_replaced, find_filled, once_filled, find_freed, once_freed}

-- ---- what a call does to what every key shows

-- a removal's answer, by what the key shows
abbrev pub removed : Option Value → Answer
removed none = absent
removed (some v) = Accepted none

-- what a call answers where the list is not full, by what each key shows
abbrev pub wanted : Call → (Key → Option Value) → Answer
wanted (Store k v) f = Accepted none
wanted (Remove k) f = removed (f k)
wanted (Lookup k) f = tell (f k)

-- what the key j shows after a call, by what it showed
abbrev pub changed : Call → Key → Option Value → Option Value
changed (Store k v) j o = cond (same k j) (some v) o
changed (Remove k) j o = cond (same k j) none o
changed (Lookup k) j o = o

-- a call either finds no place and leaves everything, or does what it is asked
pub data Effect (c : Call) (l : List Slot) (o : Out) : Type 0 where
  stuck : o.answer ≡ full → o.areas ≡ l → Effect c l o
  worked : o.answer ≡ wanted c (λ k. find k l) → ((j : Key) → find j o.areas ≡ changed c j (find j l)) → Effect c l o

-- what holds of the one outcome holds of the other
at : (P : Out → Type 0) {o u : Out} → o ≡ u → P u → P o
at P e h = subst P (sym e) h

-- ---- Store

module _ (k : Key) (v : Value) (l : List Slot) where
  replaced : first (has k) l < length l → store_at (first (has k) l) (first is_free_slot l) (held k v) l ≡ outcome (Accepted none) (set l (first (has k) l) (held k v))
  unfolding store_at
  replaced h = rw (lt-ltb (first (has k) l) (length l) h)

  filled : length l ≤ first (has k) l → first is_free_slot l < length l
      → store_at (first (has k) l) (first is_free_slot l) (held k v) l ≡ outcome (Accepted none) (set l (first is_free_slot l) (held k v))
  unfolding store_at
  filled h g = rw (le-ltb (first (has k) l) (length l) h, lt-ltb (first is_free_slot l) (length l) g)

  no_room : length l ≤ first (has k) l → length l ≤ first is_free_slot l → store_at (first (has k) l) (first is_free_slot l) (held k v) l ≡ outcome full l
  unfolding store_at
  no_room h g = rw (le-ltb (first (has k) l) (length l) h, le-ltb (first is_free_slot l) (length l) g)

  -- the three cases of a store, and what each leaves
  pub data Storing (o : Out) : Type 0 where
    again : first (has k) l < length l → o ≡ outcome (Accepted none) (set l (first (has k) l) (held k v)) → Storing o
    fresh : find k l ≡ none → first is_free_slot l < length l → o ≡ outcome (Accepted none) (set l (first is_free_slot l) (held k v)) → Storing o
    nowhere : o ≡ outcome full l → Storing o

  storing : Storing (act (Store k v) l)
  unfolding act
  storing = go (find k l) refl
    where
      by_room : find k l ≡ none → (b : Bool) → ltb (first is_free_slot l) (length l) ≡ b → Storing (store_at (first (has k) l) (first is_free_slot l) (held k v) l)
      by_room e true q = fresh e (ltb-true _ _ q) (filled (place_none k l e) (ltb-true _ _ q))
      by_room e false q = nowhere (no_room (place_none k l e) (borrow.Author.Tests.ltb-false _ _ q))

      go : (o : Option Value) → find k l ≡ o → Storing (store_at (first (has k) l) (first is_free_slot l) (held k v) l)
      go none e = by_room e (ltb (first is_free_slot l) (length l)) refl
      go (some w) e = again (place_some k l w e) (replaced (place_some k l w e))

  pub store_effect : Effect (Store k v) l (act (Store k v) l)
  store_effect = go (act (Store k v) l) storing
    where
      go : (o : Out) → Storing o → Effect (Store k v) l o
      go o (again h e) = at (Effect (Store k v) l) e (worked refl (λ j. find_replaced k v l j h))
      go o (fresh n h e) = at (Effect (Store k v) l) e (worked refl (λ j. find_filled k v l j n h))
      go o (nowhere e) = at (Effect (Store k v) l) e (stuck refl refl)

  pub store_once : Once l → Once (act (Store k v) l).areas
  store_once once = go (act (Store k v) l) storing
    where
      go : (o : Out) → Storing o → Once o.areas
      go o (again h e) = at (λ (u : Out). Once u.areas) e (once_replaced k v l h once)
      go o (fresh n h e) = at (λ (u : Out). Once u.areas) e (once_filled k v l n h once)
      go o (nowhere e) = at (λ (u : Out). Once u.areas) e once

  pub store_length : length (act (Store k v) l).areas ≡ length l
  store_length = go (act (Store k v) l) storing
    where
      go : (o : Out) → Storing o → length o.areas ≡ length l
      go o (again h e) = at (λ (u : Out). length u.areas ≡ length l) e (length-set l _ _)
      go o (fresh n h e) = at (λ (u : Out). length u.areas ≡ length l) e (length-set l _ _)
      go o (nowhere e) = at (λ (u : Out). length u.areas ≡ length l) e refl

-- ---- Remove

module _ (k : Key) (l : List Slot) where
  freed : first (has k) l < length l → act (Remove k) l ≡ outcome (Accepted none) (set l (first (has k) l) free)
  unfolding act remove_at
  freed h = rw (lt-ltb (first (has k) l) (length l) h)

  not_there : length l ≤ first (has k) l → act (Remove k) l ≡ outcome absent l
  unfolding act remove_at
  not_there h = rw (le-ltb (first (has k) l) (length l) h)

  data Removing (o : Out) : Type 0 where
    gone : (w : Value) → find k l ≡ some w → o ≡ outcome (Accepted none) (set l (first (has k) l) free) → Removing o
    missing : find k l ≡ none → o ≡ outcome absent l → Removing o

  removing : Removing (act (Remove k) l)
  removing = go (find k l) refl
    where
      go : (o : Option Value) → find k l ≡ o → Removing (act (Remove k) l)
      go none e = missing e (not_there (place_none k l e))
      go (some w) e = gone w e (freed (place_some k l w e))

  pub remove_effect : Once l → Effect (Remove k) l (act (Remove k) l)
  remove_effect once = go (act (Remove k) l) removing
    where
      same_shown : find k l ≡ none → (j : Key) (b : Bool) → same k j ≡ b → find j l ≡ cond b none (find j l)
      same_shown n j true q = ap (λ (x : Key). find x l) (sym (Rattle.cache.proofs.KeyLaws.same_tells k j q)) ∙ n
      same_shown n j false q = refl

      go : (o : Out) → Removing o → Effect (Remove k) l o
      go o (gone w n e) =
          at (Effect (Remove k) l) e (worked (ap removed (sym n)) (λ j. find_freed k l j once (place_some k l w n)))
      go o (missing n e) = at (Effect (Remove k) l) e (worked (ap removed (sym n)) (λ j. same_shown n j (same k j) refl))

  pub remove_once : Once l → Once (act (Remove k) l).areas
  remove_once once = go (act (Remove k) l) removing
    where
      go : (o : Out) → Removing o → Once o.areas
      go o (gone w n e) = at (λ (u : Out). Once u.areas) e (once_freed k l (place_some k l w n) once)
      go o (missing n e) = at (λ (u : Out). Once u.areas) e once

  pub remove_length : length (act (Remove k) l).areas ≡ length l
  remove_length = go (act (Remove k) l) removing
    where
      go : (o : Out) → Removing o → length o.areas ≡ length l
      go o (gone w n e) = at (λ (u : Out). length u.areas ≡ length l) e (length-set l _ _)
      go o (missing n e) = at (λ (u : Out). length u.areas ≡ length l) e refl

-- ---- any call

pub act_effect : (c : Call) (l : List Slot) → Once l → Effect c l (act c l)
unfolding act
act_effect (Store k v) l o = store_effect k v l
act_effect (Remove k) l o = remove_effect k l o
act_effect (Lookup k) l o = worked refl (λ j. refl)

pub act_once : (c : Call) (l : List Slot) → Once l → Once (act c l).areas
unfolding act
act_once (Store k v) l o = store_once k v l o
act_once (Remove k) l o = remove_once k l o
act_once (Lookup k) l o = o

pub act_length : (c : Call) (l : List Slot) → length (act c l).areas ≡ length l
unfolding act
act_length (Store k v) l = store_length k v l
act_length (Remove k) l = remove_length k l
act_length (Lookup k) l = refl
