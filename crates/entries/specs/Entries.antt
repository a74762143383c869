-- What an entry struct stands for in the cache, and what the answers tell. Assumes nothing.
use Rattle.std.specs.Prelude.{List, [], ◌∷◌, ℕ, Result}
use Rattle.std.proofs.Math.Option.{none}
use Rattle.bits.specs.Refusals.{told}
use Rattle.bits.specs.declared.refusal.Refusal.{Refusal}
use Rattle.cache.specs.Cache.{Key, key, Value, value, widened, Answer}
use Rattle.entries.specs.declared.Entry.{Entry}

-- the seven numbers of an entry
abbrev pub numbers_of : Entry → List ℕ
numbers_of e = e.in_use ∷ e.provider ∷ e.solution ∷ e.satellite ∷ e.signal ∷ e.iod ∷ e.bias ∷ []

-- what it is stored under
abbrev pub key_of : Entry → Key
key_of e = key e.provider e.solution e.satellite e.signal

-- what is stored
abbrev pub value_of : Entry → Value
value_of e = value e.iod (widened e.bias)

-- storing and removing: nothing, or Size, Range with 0, Full, Absent
abbrev pub told_answer : Result Unit Refusal → Answer
told_answer = told (λ done. none)
