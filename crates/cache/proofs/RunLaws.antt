-- What a run answers to one provider, call by call. Assumes nothing.
use mathlib.Core.Path.{◌≡◌, refl}
use mathlib.Core.List.{List, [], ◌∷◌}
use mathlib.Core.Bool.{cond}
use Prim.Native.Nat.{ℕ}
use lib.Dec.{eqb}
use Rattle.cache.specs.Cache.{Call, caller, step}
use Rattle.cache.specs.Runs.{answers_to}

module _ (p : ℕ) (l : List (List ℕ)) where
  pub answers_end : answers_to p l [] ≡ []
  unfolding answers_to
  answers_end = refl

  pub answers_on : (c : Call) (cs : List Call)
      → answers_to p l (c ∷ cs) ≡ cond (eqb (caller c) p) ((step c l).answer ∷ answers_to p (step c l).areas cs) (answers_to p (step c l).areas cs)
  unfolding answers_to
  answers_on c cs = refl
