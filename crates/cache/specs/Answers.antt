-- What each answer of the code tells. Assumes nothing.
use Rattle.std.specs.Prelude.{Result}
use Rattle.std.proofs.Math.Option.{none, some}
use Rattle.bits.specs.Refusals.{told}
use Rattle.bits.specs.declared.refusal.Refusal.{Refusal}
use Rattle.cache.specs.Cache.{Key, key, value, Answer}
use Rattle.cache.specs.declared.cache.Key as code
use Rattle.cache.specs.declared.cache.Value as code_value

-- the key that the code is given
abbrev pub key_of : code.Key → Key
key_of k = key k.provider k.solution k.satellite k.signal

-- admitting: nothing, or Size, Range with 0
abbrev pub told_admitted : Result Unit Refusal → Answer
told_admitted = told (λ done. none)

-- storing: nothing, or Size, Range with 0, Full
abbrev pub told_stored : Result Unit Refusal → Answer
told_stored = told (λ done. none)

-- removing: nothing, or Size, Range with 0, Absent
abbrev pub told_removed : Result Unit Refusal → Answer
told_removed = told (λ done. none)

-- looking up: the value, or Size, Range with 0, Absent
abbrev pub told_found : Result code_value.Value Refusal → Answer
told_found = told (λ v. some (value v.iod v.bias))
