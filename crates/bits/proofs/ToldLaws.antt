-- An answer of the code is fixed by what it tells, and so by a statement. Assumes nothing.
use mathlib.Core.Path.{◌≡◌, sym, ap, ◌∙◌}
use mathlib.Core.List.{List}
use Prim.Native.Nat.{ℕ}
use Rattle.bits.specs.Told.{Told, OneToOne}
use Rattle.bits.specs.Outcome.{Outcome, outcome}
use Rattle.bits.specs.Field.{reading}
use Rattle.bits.specs.declared.refusal.Refusal.{Refusal}
use Rattle.std.specs.Prelude.{Result}
use Rattle.bits.proofs.RefusalLaws.{told_one_to_one}
use Rattle.bits.specs.Answers.{told_unsigned, told_signed, told_written}
use Rattle.bits.proofs.OutcomeLaws.{only_outcome}

-- two answers that a statement allows are equal
pub only : {E A : Type 0} (told : E → Told A) → OneToOne told → (d : Told A) {x y : E} → told x ≡ d → told y ≡ d → x ≡ y
only told o d p q = o.same (p ∙ sym q)

-- an answer that can be found again from what it tells stands for it one to one
pub found_again : {E A : Type 0} (told : E → Told A) (again : Told A → E) → ((x : E) → again (told x) ≡ x) → OneToOne told
found_again told again r = record { same = λ {x} {y} e. sym (r x) ∙ ap again e ∙ r y }

-- ---- the answers of reading and writing a field

reading_one : {A : Type 0} (x y : A × ℕ) → reading x.0 x.1 ≡ reading y.0 y.1 → x ≡ y
reading_one x y e = ap (λ r. (r.value, r.next)) e

pub unsigned_one_to_one : OneToOne told_unsigned
unsigned_one_to_one = told_one_to_one (λ r. reading r.0 r.1) reading_one

pub signed_one_to_one : OneToOne told_signed
signed_one_to_one = told_one_to_one (λ r. reading r.0 r.1) reading_one

pub written_one_to_one : OneToOne told_written
written_one_to_one = told_one_to_one (λ q. q) (λ x y e. e)

-- and of a call that writes, the data that two runs leave are equal too
pub only_wrote : (d : Outcome ℕ (List ℕ)) {x y : Result ℕ Refusal} {s t : List ℕ} → outcome (told_written x) s ≡ d → outcome (told_written y) t ≡ d → (x ≡ y) × (s ≡ t)
only_wrote d = only_outcome told_written written_one_to_one d
