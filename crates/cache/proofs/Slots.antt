-- The cache over slots, free or held, in which entries say no more than they mean: what the laws are proved of. Assumes nothing.
use mathlib.Core.List.{List, [], ◌∷◌}
use mathlib.Core.Option.{Option, none, some}
use mathlib.Core.Bool.{Bool, true, false, cond, not}
use Prim.Native.Nat.{ℕ}
use lib.ListN.{length}
use lib.Dec.{ltb, eqb}
use Rattle.bits.specs.Told.{range, size}
use Rattle.bits.specs.Outcome.{Outcome, outcome}
use Rattle.cache.specs.Cache.{Key, same, Value, first, Call, Store, Remove, Lookup, caller, fits, Answer, store_at, remove_at, tell}

-- an entry, free or in use
pub data Slot : Type 0 where
  free : Slot
  held : Key → Value → Slot

abbrev pub Out : Type 0
Out = Outcome (Option Value) (List Slot)

abbrev pub is_free_slot : Slot → Bool
is_free_slot free = true
is_free_slot (held k v) = false

abbrev pub has : Key → Slot → Bool
has k free = false
has k (held j v) = same j k

unfoldable pub find : Key → List Slot → Option Value
find k [] = none
find k (free ∷ l) = find k l
find k (held j v ∷ l) = cond (same j k) (some v) (find k l)

unfoldable pub act : Call → List Slot → Out
act (Store k v) l = store_at (first (has k) l) (first is_free_slot l) (held k v) l
act (Remove k) l = remove_at (first (has k) l) free l
act (Lookup k) l = outcome (tell (find k l)) l

unfoldable pub step : Call → List Slot → Out
step c l = cond (ltb 512 (length l)) (outcome size l) (cond (not (fits c)) (outcome (range 0) l) (act c l))

unfoldable pub answers_to : ℕ → List Slot → List Call → List Answer
answers_to p l [] = []
answers_to p l (c ∷ cs) =
    cond (eqb (caller c) p) ((step c l).answer ∷ answers_to p (step c l).areas cs) (answers_to p (step c l).areas cs)

-- every slot is free
unfoldable pub NoneHeld : List Slot → Type 0
NoneHeld [] = Unit
NoneHeld (free ∷ l) = NoneHeld l
NoneHeld (held k v ∷ l) = ⊥
