-- Runs of the cache: calls of several providers, one after the other. Assumes nothing.
use Rattle.std.specs.Prelude.{◌≡◌, List, [], ◌∷◌, true, cond, ℕ, eqb}
use Rattle.bits.specs.Told.{full}
use Rattle.cache.specs.Cache.{free, Call, caller, Answer, step}

-- the calls of one provider, in their order
unfoldable pub calls_of : ℕ → List Call → List Call
calls_of p [] = []
calls_of p (c ∷ cs) = cond (eqb (caller c) p) (c ∷ calls_of p cs) (calls_of p cs)

-- what a run of calls from the list l on answers to one provider, in order
unfoldable pub answers_to : ℕ → List (List ℕ) → List Call → List Answer
answers_to p l [] = []
answers_to p l (c ∷ cs) =
    cond (eqb (caller c) p) ((step c l).answer ∷ answers_to p (step c l).areas cs) (answers_to p (step c l).areas cs)

-- every entry is free
unfoldable pub AllFree : List (List ℕ) → Type 0
AllFree [] = Unit
AllFree (e ∷ l) = (free e ≡ true) × AllFree l

-- no answer is Full
unfoldable pub NoFull : List Answer → Type 0
NoFull [] = Unit
NoFull (a ∷ rest) = (a ≡ full → ⊥) × NoFull rest
