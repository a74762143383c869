-- An answer of the code is fixed by what it tells, and so by its statement. Assumes nothing.
use mathlib.Core.Path.{◌≡◌, refl, ap₂}
use mathlib.Core.Option.{some}
use mathlib.Core.Bool.{Bool}
use Prim.Native.Nat.{ℕ}
use Rattle.bits.specs.Told.{OneToOne}
use Rattle.bits.specs.declared.refusal.Refusal.{Refusal}
use Rattle.bits.proofs.RefusalLaws.{told_one_to_one}
use Rattle.bits.proofs.ToldLaws.{only}
use Rattle.cache.specs.Cache.{value, admitted}
use Rattle.cache.specs.Answers.{told_admitted, told_stored, told_removed, told_found}
use Rattle.cache.specs.declared.cache.Value.{Value}
use Rattle.std.specs.Prelude.{Result}

pub admitted_one_to_one : OneToOne told_admitted
admitted_one_to_one = told_one_to_one (λ done. _) (λ x y e. refl)

pub only_admitted : (n : ℕ) (fits : Bool) {x y : Result (Unit {0}) Refusal} → told_admitted x ≡ admitted n fits → told_admitted y ≡ admitted n fits → x ≡ y
only_admitted n fits = only told_admitted admitted_one_to_one (admitted n fits)

pub stored_one_to_one : OneToOne told_stored
stored_one_to_one = told_one_to_one (λ done. _) (λ x y e. refl)

pub removed_one_to_one : OneToOne told_removed
removed_one_to_one = told_one_to_one (λ done. _) (λ x y e. refl)

same_value : (v w : Value) → some (value v.iod v.bias) ≡ some (value w.iod w.bias) → v ≡ w
same_value v w e =
    let p : v.iod ≡ w.iod = cc in
    let q : v.bias ≡ w.bias = cc in
    ap₂ (λ (i b : ℕ). record { iod = i; bias = b }) p q

pub found_one_to_one : OneToOne told_found
found_one_to_one = told_one_to_one (λ v. some (value v.iod v.bias)) same_value
