-- Runs of the calls over a list of entries, one after the other. Assumes nothing.
use Rattle.std.specs.Prelude.{◌≡◌, List, [], ◌∷◌, map, cond, ℕ, eqb}
use Rattle.bits.specs.Outcome.{outcome}
use Rattle.cache.specs.Cache.{Call, caller, Answer, step}
use Rattle.entries.specs.Entries.{numbers_of}
use Rattle.entries.specs.declared.Entry.{Entry}

-- a run from a list on, in which each call keeps to its statement, and what it answers to provider p
pub data Ran (p : ℕ) : List Entry → List Call → List Answer → Type 0 where
  ended : (l : List Entry) → Ran p l [] []
  called : (l m : List Entry) (c : Call) (cs : List Call) (a : Answer) (rest : List Answer)
      → outcome a (map numbers_of m) ≡ step c (map numbers_of l) → Ran p m cs rest
      → Ran p l (c ∷ cs) (cond (eqb (caller c) p) (a ∷ rest) rest)
