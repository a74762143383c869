-- Laws of outcomes: a refused call changes nothing, and a statement allows one outcome alone. Assumes nothing.
use mathlib.Core.Path.{◌≡◌, refl, sym, ap, ◌∙◌}
use mathlib.Core.Bool.{Bool, true, false, cond}
use mathlib.Core.List.{List}
use Prim.Native.Nat.{ℕ}
use native.Mathlib.Omega.{arith}
use Rattle.bits.specs.Told.{Told, Accepted, Refused, OneToOne}
use Rattle.bits.specs.Outcome.{Outcome, outcome, refusing}

-- where the answer is a refusal, the areas are as they were before
pub record Keeps {A S : Type 0} (before : S) (o : Outcome A S) : Type 0 where
  pub kept : {n : ℕ} {carried : List ℕ} → o.answer ≡ Refused n carried → o.areas ≡ before

module _ {A S : Type 0} (before : S) where
  pub accepted_keeps : (a : A) (after : S) → Keeps before (outcome (Accepted a) after)
  accepted_keeps a after = record { kept = λ e. let z : ◌≡◌ {A = ℕ} 0 1 = cc in absurd (omega arith) }

  pub refused_keeps : (n : ℕ) (carried : List ℕ) → Keeps before (outcome {A = A} (Refused n carried) before)
  refused_keeps n carried = record { kept = λ e. refl }

  -- a chain of refusals keeps if what follows the last does
  pub refusing_keeps : {B : Type 0} (told : Told B) (onward : B → Outcome A S) → ((b : B) → Keeps before (onward b)) → Keeps before (refusing before told onward)
  refusing_keeps (Accepted b) onward k = k b
  refusing_keeps (Refused n carried) onward k = refused_keeps n carried

  -- the answer of a chain, once what follows accepts, is the chain's
  pub writing_keeps : (told : Told A) (after : A → S) → Keeps before (refusing before told (λ a. outcome (Accepted a) (after a)))
  writing_keeps told after = refusing_keeps told (λ a. outcome (Accepted a) (after a)) (λ a. accepted_keeps a (after a))

-- what was accepted was not refused before
module _ {A B S : Type 0} (before : S) (onward : B → Outcome A S) (y : Outcome A S) (r : A) (ans : y.answer ≡ Accepted r) where
  pub not_refused : (c : Bool) (k : ℕ) (cs : List ℕ) (x : Told B) → refusing before (cond c (Refused k cs) x) onward ≡ y → (c ≡ false) × (refusing before x onward ≡ y)
  not_refused true k cs x e =
      let u : ◌≡◌ {A = Told A} (Refused k cs) (Accepted r) = ap (λ z. z.answer) e ∙ ans in
      let z : ◌≡◌ {A = ℕ} 0 1 = cc in absurd (omega arith)
  not_refused false k cs x e = (refl, e)

-- two outcomes of the code that a statement allows are equal: their answers, and the areas they leave
pub only_outcome : {E A S : Type 0} (told : E → Told A) → OneToOne told → (d : Outcome A S) {x y : E} {s t : S}
    → outcome (told x) s ≡ d → outcome (told y) t ≡ d → (x ≡ y) × (s ≡ t)
only_outcome told o d p q = (o.same (ap (λ r. r.answer) (p ∙ sym q)), ap (λ r. r.areas) (p ∙ sym q))
