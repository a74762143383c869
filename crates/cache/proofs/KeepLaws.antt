-- A call of the cache that is refused leaves the list as it came. Assumes nothing.
use mathlib.Core.Bool.{Bool, true, false, cond, not}
use mathlib.Core.List.{List}
use mathlib.Core.Option.{Option, none, some}
use Prim.Native.Nat.{ℕ}
use lib.ListN.{length, set}
use lib.Dec.{ltb}
use Rattle.bits.specs.Outcome.{Outcome, outcome}
use Rattle.bits.proofs.OutcomeLaws.{Keeps, accepted_keeps, refused_keeps}
use Rattle.cache.specs.Cache.{Value, Call, Store, Remove, Lookup, has_key, free, first, entry_of, blank, find, tell, fits, store_at, remove_at, act, step}

module _ {X : Type 0} (l : List X) where
  -- either way, if both do
  either_keeps : (b : Bool) {x y : Outcome (Option Value) (List X)} → Keeps l x → Keeps l y → Keeps l (cond b x y)
  either_keeps true k j = k
  either_keeps false k j = j

  store_keeps : (i j : ℕ) (x : X) → Keeps l (store_at i j x l)
  unfolding store_at
  store_keeps i j x =
      either_keeps (ltb i (length l)) (accepted_keeps l none (set l i x))
      (either_keeps (ltb j (length l)) (accepted_keeps l none (set l j x))
      (refused_keeps l 15 _))

  remove_keeps : (i : ℕ) (x : X) → Keeps l (remove_at i x l)
  unfolding remove_at
  remove_keeps i x = either_keeps (ltb i (length l)) (accepted_keeps l none (set l i x)) (refused_keeps l 16 _)

  found_keeps : (o : Option Value) → Keeps l (outcome (tell o) l)
  found_keeps none = refused_keeps l 16 _
  found_keeps (some v) = accepted_keeps l (some v) l

act_keeps : (c : Call) (l : List (List ℕ)) → Keeps l (act c l)
unfolding act
act_keeps (Store k v) l = store_keeps l (first (has_key k) l) (first free l) (entry_of k v)
act_keeps (Remove k) l = remove_keeps l (first (has_key k) l) blank
act_keeps (Lookup k) l = found_keeps l (find k l)

pub step_keeps : (c : Call) (l : List (List ℕ)) → Keeps l (step c l)
unfolding step
step_keeps c l = either_keeps l (ltb 512 (length l)) (refused_keeps l 9 _) (either_keeps l (not (fits c)) (refused_keeps l 3 _) (act_keeps c l))
