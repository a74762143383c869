-- An answer of comparing is fixed by what it tells, and so by its statement. Assumes nothing.
use mathlib.Core.Path.{◌≡◌, ap, ap₂}
use Prim.Native.Nat.{ℕ}
use Rattle.bits.specs.Told.{OneToOne}
use Rattle.bits.proofs.RefusalLaws.{told_one_to_one}
use Rattle.damage.specs.Compare.{run}
use Rattle.damage.specs.Compare as C
use Rattle.damage.specs.Answers.{told_compared}
use Rattle.damage.specs.declared.compare.Run.{Run}

same_run : (r q : Run) → run r.start r.count ≡ run q.start q.count → r ≡ q
same_run r q e = ap₂ (λ (i n : ℕ). record { start = i; count = n }) (ap (λ (x : C.Run). x.start) e) (ap (λ (x : C.Run). x.count) e)

pub compared_one_to_one : OneToOne told_compared
compared_one_to_one = told_one_to_one (λ r. run r.start r.count) same_run
